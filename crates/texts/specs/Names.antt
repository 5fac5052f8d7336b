-- the names of customers and jobs
use Rattle.std.specs.Prelude.{ℕ, Bool, List, ◌&&◌, ◌==◌, nat_le, length, codes}
use Rattle.std.specs.List.{list_all, list_any}

-- the most characters of a customer's name
abbrev pub longest_name : ℕ
longest_name = 12

-- the largest number of a job
abbrev pub largest_number : ℕ
largest_number = 999999

-- whether a byte is a capital letter or a digit, as the characters of a customer's name are
abbrev pub is_letter_or_digit : ℕ → Bool
is_letter_or_digit byte = list_any (λ c. c == byte) (codes "ABCDEFGHIJKLMNOPQRSTUVWXYZ0123456789")

-- whether a customer's name may have so many characters: 1 to 12
abbrev pub is_name_length : ℕ → Bool
is_name_length length = nat_le 1 length && nat_le length longest_name

-- whether this is a customer's name: 1 to 12 capital letters and digits
abbrev pub is_customer : List ℕ → Bool
is_customer name = is_name_length (length name) && list_all is_letter_or_digit name

-- whether a job may have this number: 1 to 999,999
abbrev pub is_number : ℕ → Bool
is_number number = nat_le 1 number && nat_le number largest_number
