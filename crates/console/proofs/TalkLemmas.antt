-- a session over a reader and a writer
use Rattle.std.proofs.Common.{◌≡◌, ℕ, Bool, true, false, List, [], ◌∷◌, ◌++◌, Option, take, subst}
use Rattle.std.proofs.KnownBytes.{Appends-nil, Appends-trans}
use Rattle.std.specs.Io.KnownBytes.{Appends}
use Rattle.console.specs.Answers.{Answers}
use Rattle.console.specs.SessionStates.{HasCome, SessionState}
use Rattle.console.specs.Talks.{IsRead, IsTalk, PutsSo, Talked}
use Rattle.console.specs.declared.talking.Ended.TheVariants as ended

-- a session that was talked with so far
pub record Talking (s : SessionState) (from old : Option (List ℕ)) (now : SessionState) (left new : Option (List ℕ)) : Type 0 where
  pub lines : List (List ℕ)
  pub text : List ℕ
  pub talked : Talked s from lines now left text
  pub written : Appends old new text
  pub come : HasCome now

pub talking_none : (s : SessionState) (from old : Option (List ℕ)) → HasCome s → Talking s from old s from old
talking_none s from old come = record { lines = []; text = []; talked = Talked.none; written = Appends-nil old; come = come }

module _ {s : SessionState} {from old : Option (List ℕ)} {now : SessionState} {left new : Option (List ℕ)} (so : Talking s from old now left new) where
  pub talking_on : (line : List ℕ) (after : SessionState) (rest newer : Option (List ℕ)) (told : List ℕ) (ends : Bool)
      → IsRead left line rest → Answers now line after told ends → ends ≡ false → Appends new newer told → HasCome after → Talking s from old after rest newer
  talking_on line after rest newer told ends read answered goes put come = record {
    lines = so.lines ++ line ∷ [];
    text = so.text ++ told;
    talked = Talked.more so.lines now left so.text line after rest told so.talked read (subst (Answers now line after told) goes answered);
    written = Appends-trans old new newer so.text told so.written put;
    come = come;
  }

  pub talk_unwritten : (line : List ℕ) (after : SessionState) (rest newer : Option (List ℕ)) (told : List ℕ) (ends : Bool)
      → IsRead left line rest → Answers now line after told ends → PutsSo told new newer false → IsTalk s after from rest old newer ended.WriteFailed
  talk_unwritten line after rest newer told ends read answered put = record {
    lines = so.lines;
    now = now;
    left = left;
    text = so.text;
    talked = so.talked;
    ends = (
      told,
      ends,
      put.0,
      record { line = line; read = read; answered = answered },
      put.1,
      Appends-trans old new newer so.text (take put.0 told) so.written put.2,
    );
  }

  pub talk_asked : (line : List ℕ) (after : SessionState) (rest newer : Option (List ℕ)) (told : List ℕ) (ends : Bool)
      → IsRead left line rest → Answers now line after told ends → ends ≡ true → Appends new newer told → IsTalk s after from rest old newer ended.Asked
  talk_asked line after rest newer told ends read answered asked put = record {
    lines = so.lines;
    now = now;
    left = left;
    text = so.text;
    talked = so.talked;
    ends = (told, record { line = line; read = read; answered = subst (Answers now line after told) asked answered }, Appends-trans old new newer so.text told so.written put);
  }
