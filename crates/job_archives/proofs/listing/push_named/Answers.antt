use Rattle.std.proofs.Common.{◌≡◌, ℕ, List, Option, ◌++◌, true, option_map, subst, rules}
use Rattle.job_archives.specs.Lists.{entry_line, is_of, listed_line}
use Rattle.job_archives.proofs.ListingLines.{named_line, one_line}
use Rattle.job_archives.proofs.listing.push_named.Goals as goal

pub returns-clause-added : goal.returns-clause-added
returns-clause-added g c clean office distinct s =
    let told = c.in_ok-summary.ensures.told clean office distinct s in
    let asked : Option (List ℕ) = option_map (λ it. it.now) c.args.asked in
    let customer : List ℕ = c.args.name.customer.now in
    let this : is_of asked customer ≡ true = search rules in (
      told.0,
      λ e name its.
          let line : listed_line customer c.args.name.number c.in_ok-summary.summary ≡ entry_line e = named_line customer c.args.name.number e office c.in_ok-summary.summary name its told.1 in
          let added : c.push_job.new.out.items ≡ c.args.out.now.items ++ entry_line e = subst (λ (l : List ℕ). c.push_job.new.out.items ≡ c.args.out.now.items ++ l) line c.in_ok-push_job.ensures in
          one_line asked e _ _ (subst (λ (who : List ℕ). is_of asked who ≡ true) name.0 this) added,
    )
