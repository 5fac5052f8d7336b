-- the numbers of the profile
use Rattle.std.specs.Prelude.{ℕ, Bool, ◌&&◌, nat_le}

-- the largest limit of a slice, in instructions
abbrev pub largest_limit : ℕ
largest_limit = 2000

-- the most jobs of a customer
abbrev pub most_jobs : ℕ
most_jobs = 200

-- the most instructions that may be granted to a job, over all its stretches
abbrev pub most_granted : ℕ
most_granted = 1000000000

-- the most cards that a job loads
abbrev pub most_loaded : ℕ
most_loaded = 2000

-- whether a slice may have this limit: 1 to 2,000 instructions
abbrev pub is_limit : ℕ → Bool
is_limit limit = nat_le 1 limit && nat_le limit largest_limit
