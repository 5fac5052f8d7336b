-- What is wrong with arguments, step by step.
use Rattle.std.proofs.Common.{◌≡◌, List, [], ◌∷◌, refl}
use Rattle.clap.specs.Words.{Text}
use Rattle.command_line.specs.Misuses.{Arguments, Misuse, Place, at_end, misuse_from, onward, step, wrong}

-- reading goes on behind an argument that leads to another place
pub goes_on : (all : Arguments) (place next : Place) (word : Text) (more words : List Text) → words ≡ word ∷ more → step all place word ≡ onward next
    → misuse_from all place words ≡ misuse_from all next more
unfolding misuse_from
goes_on all place next word more words is e = rw is (rw e refl)

-- reading ends at an argument that is wrong
pub goes_wrong : (all : Arguments) (place : Place) (it : Misuse) (word : Text) (more words : List Text) → words ≡ word ∷ more → step all place word ≡ wrong it
    → misuse_from all place words ≡ it
unfolding misuse_from
goes_wrong all place it word more words is e = rw is (rw e refl)

-- reading ends where no argument is left
pub ends : (all : Arguments) (place : Place) (words : List Text) → words ≡ [] → misuse_from all place words ≡ at_end place.awaited place.to_come
unfolding misuse_from
ends all place words is = rw is refl
