-- What a stop leaves.
use Rattle.std.proofs.Common.{◌≡◌, IsTrue, refl, subst}
use Rattle.std.proofs.Math.Logic.{∥∥₁_elim, ∥∥₁_map}
use Rattle.sqlite_disk.specs.declared.Disk.{Ghosts}
use Rattle.sqlite_wal.specs.Recovery.{Image}
use Rattle.sqlite_pool.specs.Stored.{is_summed}
use Rattle.sqlite_pool.proofs.StateLemmas.{size_is_allowed}
use Rattle.sqlite_pool.proofs.ResealLemmas.{adopts_of}
use Rattle.sqlite_trees.specs.Tree.{Trees}
use Rattle.sqlite_store.specs.declared.store.FileStore.{FileStore}
use Rattle.sqlite_store.specs.Listing.{IsOurs}
use Rattle.sqlite_store.specs.FileStore.{state, view, schema_in, reading, recovers}
use Rattle.sqlite.specs.Held.{AreDatabases}
use Rattle.sqlite.specs.Files.{HoldsDatabase}

-- each image that a crash may leave holds a database that the store allows, and its pages end in sums as the store's do
pub left_holds : {D : Type 0} {g : Ghosts D} (it : FileStore D g) → IsTrue (view it).is_numbered → AreDatabases (recovers it)
    → (left : Image) → (state it).may_leave left → ∥ ((db : Trees) × recovers it db × (held : HoldsDatabase left db) × (is_summed held.0 ≡ (view it).has_sums)) ∥₁
left_holds it numbered sound left may = ∥∥₁_elim it.safe squash₁ (λ all.
    let found = all left may in
    let db = reading it found.0 in
    let allowed : recovers it db = (left, found.0, may, ∣ found.1 ∣₁, refl) in
    let schema = sound db allowed in
    ∥∥₁_elim (size_is_allowed it.pool) squash₁ (λ size. ∥∥₁_map found.2 (λ ours. let r : (x : Trees) × recovers it x × (held : HoldsDatabase left x) × (is_summed held.0 ≡ (view it).has_sums) = (
      db,
      allowed,
      (
        (state it).page_size,
        size,
        record {
          pages = found.0;
          wanted = schema_in it found.0;
          schema = schema.0;
          found = adopts_of _ left found.0 found.1;
          reads = refl;
          sound = schema.1;
          ours = subst (λ b. IsOurs (state it).page_size b (schema_in it found.0) found.0) numbered ours;
        },
      ),
      refl,
    ) in r)))
