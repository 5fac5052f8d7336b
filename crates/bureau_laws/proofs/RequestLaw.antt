-- what is asked for with a body is one request
use Rattle.std.proofs.Common.{◌≡◌, ◌≢◌, ◌∙◌, ℕ, List, [], ◌∷◌, length, take, sym, ap, subst, refl, arith, inl, inr}
use Rattle.cards.specs.Decks.{IsDeck}
use Rattle.cards.specs.Faults.{IsFirstFault}
use Rattle.cards.specs.Files.{column_of, file_of, text_of}
use Rattle.cards.specs.declared.decks.Card.{Card}
use Rattle.cards.specs.declared.faults.CardFault.{CardFault}
use Rattle.units.specs.declared.switches.Switches.{Switches}
use Rattle.http_messages.specs.Judging.{AsksFor}
use Rattle.http_messages.specs.declared.targets.Target.{Target}
use Rattle.http_messages.specs.declared.targets.Target.TheVariants as target
use Rattle.texts.specs.declared.names.JobName.{JobName}
use Rattle.office.specs.declared.commands.Kind.{Kind}
use Rattle.httparse.specs.Grammar.{ReadsRequest, RequestHead}
use Rattle.office.specs.declared.commands.Command.TheVariants as command
use Rattle.office.specs.declared.commands.Contents.{Contents}
use Rattle.office.specs.declared.commands.JobCommand.{JobCommand}
use Rattle.http_messages.specs.Asking.{AreContents, AsksOfJobs, IsAskedBy, IsOnJob, IsSubmission, IsTextFault}
use Rattle.http_messages.specs.Requests.{IsAskedWith, IsRefusedFor, IsRequestOf}
use Rattle.http_messages.specs.declared.request.Request.{Request}
use Rattle.http_messages.specs.declared.request.Request.TheVariants as request
use Rattle.bureau_laws.specs.Same.{IsSameTarget, IsSameJob, IsSameRequest}
use Rattle.bureau_laws.proofs.HeadLaw.{not_both, one_of_head, one_status}
use Rattle.bureau_laws.proofs.AskingLaw.{same_asking}

-- ---- decks

-- one form has the texts of decks
one_form : (form other : _) → text_of ≡ file_of form → text_of ≡ file_of other → form ≡ other
unfolding column_of
one_form form other a b =
    let one : List Card = (record { 0 = 0 ∷ [] }) ∷ [] in
    let size = ap (λ (file : List Card → List ℕ). length (file one)) a in
    let other_size = ap (λ (file : List Card → List ℕ). length (file one)) b in
    grind arith

-- what the law of decks' files says
pub record OneReading : Type 0 where
  pub one_deck : (form : _) (one two : List Card) → IsDeck one → IsDeck two → file_of form one ≡ file_of form two → one ≡ two
  pub one_fault : (form : _) (file : List ℕ) (one two : CardFault) → IsFirstFault form file one → IsFirstFault form file two → one ≡ two
  pub not_both : (form : _) (file : List ℕ) (fault : CardFault) (deck : List Card) → IsFirstFault form file fault → IsDeck deck → file ≢ file_of form deck

module _ (law : OneReading) where
  one_fault : (text : List ℕ) (one other : CardFault) → IsTextFault text one → IsTextFault text other → one ≡ other
  one_fault text one other (form, same, a) (again, too, b) =
      law.one_fault form text one other a (subst (λ f. IsFirstFault f text other) (one_form again form too same) b)

  module _ (kind form : Kind) (size positions : ℕ) (switches up : Switches) (text : List ℕ) where
    same_contents : (one other : Contents) → kind ≡ form → size ≡ positions → switches ≡ up
        → AreContents kind size switches text one → AreContents form positions up text other → one ≡ other
    same_contents one other k s w a b =
        let kinds : one.kind ≡ other.kind = a.kind_is ∙ k ∙ sym b.kind_is in
        let sizes : one.size ≡ other.size = a.size_is ∙ s ∙ sym b.size_is in
        let sets : one.switches ≡ other.switches = a.switches_are ∙ w ∙ sym b.switches_are in
        let decks : one.deck ≡ other.deck = law.one_deck _ one.deck other.deck a.deck b.deck (sym a.text_is ∙ b.text_is) in
        λ i. record { kind = kinds i; size = sizes i; switches = sets i; deck = decks i }

  no_fault : (kind : Kind) (size : ℕ) (switches : Switches) (text : List ℕ) (contents : Contents) (fault : CardFault)
      → AreContents kind size switches text contents → IsTextFault text fault → ⊥
  no_fault kind size switches text contents fault are (form, same, first) =
      law.not_both form text fault contents.deck first are.deck (are.text_is ∙ ap (λ (file : List Card → List ℕ). file contents.deck) same)

  -- ---- requests

  one_submission : (job name : JobName) (kind form : Kind) (size positions : ℕ) (switches up : Switches) (text : List ℕ) (r q : Request)
      → IsSameJob job name → kind ≡ form → size ≡ positions → switches ≡ up
      → IsSubmission job kind size switches text r → IsSubmission name form positions up text q → IsSameRequest r q
  one_submission job name kind form size positions switches up text (request.Asks (command.Submit customer number contents)) (request.Asks (command.Submit owner place deck)) j k s w x y =
      (x.0.0 ∙ j.0 ∙ sym y.0.0, x.0.1 ∙ j.1 ∙ sym y.0.1, same_contents kind form size positions switches up text contents deck k s w x.1 y.1)
  one_submission job name kind form size positions switches up text (request.Asks (command.Submit customer number contents)) (request.BadDeck fault) j k s w x y =
      absurd (no_fault kind size switches text contents fault x.1 y)
  one_submission job name kind form size positions switches up text (request.Asks (command.Submit customer number contents)) q j k s w x y = absurd y
  one_submission job name kind form size positions switches up text (request.BadDeck fault) (request.Asks (command.Submit customer number contents)) j k s w x y =
      absurd (no_fault form positions up text contents fault y.1 x)
  one_submission job name kind form size positions switches up text (request.BadDeck one) (request.BadDeck other) j k s w x y = one_fault text one other x y
  one_submission job name kind form size positions switches up text (request.BadDeck one) q j k s w x y = absurd y
  one_submission job name kind form size positions switches up text r q j k s w x y = absurd x

  one_on_job : (job name : JobName) (c d : JobCommand) (r q : Request) → IsSameJob job name → c ≡ d → IsOnJob job c r → IsOnJob name d q → IsSameRequest r q
  one_on_job job name c d (request.Asks (command.Job customer number e)) (request.Asks (command.Job owner place f)) j same x y =
      (x.0.0 ∙ j.0 ∙ sym y.0.0, x.0.1 ∙ j.1 ∙ sym y.0.1, x.1 ∙ same ∙ sym y.1)
  one_on_job job name c d (request.Asks (command.Job customer number e)) q j same x y = absurd y
  one_on_job job name c d r q j same x y = absurd x

  one_of_jobs : (customer name : List ℕ) (r q : Request) → customer ≡ name → AsksOfJobs customer r → AsksOfJobs name q → IsSameRequest r q
  one_of_jobs customer name (request.Asks (command.Jobs one)) (request.Asks (command.Jobs other)) same x y = x ∙ same ∙ sym y
  one_of_jobs customer name (request.Asks (command.Jobs one)) q same x y = absurd y
  one_of_jobs customer name r q same x y = absurd x

  one_of_queue : (r q : Request) → r ≡ request.Asks command.Queue → q ≡ request.Asks command.Queue → IsSameRequest r q
  one_of_queue r q x y =
      let queue : IsSameRequest (request.Asks command.Queue) (request.Asks command.Queue) = tt in
      subst (λ (p : Request). IsSameRequest p q) (sym x) (subst (λ (p : Request). IsSameRequest (request.Asks command.Queue) p) (sym y) queue)

  one_asked : (a b : Target) (body : List ℕ) (r q : Request) → IsSameTarget a b → IsAskedBy a body r → IsAskedBy b body q → IsSameRequest r q
  one_asked (target.Submission job kind size switches) (target.Submission name form positions up) body r q same x y =
      one_submission job name kind form size positions switches up body r q same.0 same.1 same.2 same.3 x y
  one_asked (target.Job job c) (target.Job name d) body r q same x y = one_on_job job name c d r q same.0 same.1 x y
  one_asked (target.Jobs customer) (target.Jobs name) body r q same x y = one_of_jobs customer.now name.now r q same x y
  one_asked target.Queue target.Queue body r q same x y = one_of_queue r q x y
  one_asked a b body r q same x y = absurd same

  -- both bodies end too early
  both_short : (r q : Request) → r ≡ request.Refused 400 → q ≡ request.Refused 400 → IsSameRequest r q
  both_short r q x y =
      let refused : IsSameRequest (request.Refused 400) (request.Refused 400) = inl refl in
      subst (λ (p : Request). IsSameRequest p q) (sym x) (subst (λ (p : Request). IsSameRequest (request.Refused 400) p) (sym y) refused)

  one_with_body : (a b : Target) (count : ℕ) (after : List ℕ) (r q : Request) → IsSameTarget a b → IsAskedWith a count after r → IsAskedWith b count after q → IsSameRequest r q
  one_with_body a b count after r q same (inl x) (inl y) = one_asked a b (take count after) r q same x.1 y.1
  one_with_body a b count after r q same (inl x) (inr y) = absurd (omega (arith, x.0, y.0))
  one_with_body a b count after r q same (inr x) (inl y) = absurd (omega (arith, x.0, y.0))
  one_with_body a b count after r q same (inr x) (inr y) = both_short r q x.1 y.1

-- ---- bytes

refused_once : (input : List ℕ) (r q : Request) → IsRefusedFor input r → IsRefusedFor input q → IsSameRequest r q
refused_once input (request.Refused one) (request.Refused other) x y = one_status input one other x y
refused_once input (request.Refused one) q x y = absurd y
refused_once input r q x y = absurd x

refused_or_asked : (input : List ℕ) (r : Request) (a : Target) (count : ℕ) (after : List ℕ) → IsRefusedFor input r → AsksFor input a count after → ⊥
refused_or_asked input (request.Refused status) a count after refused asks = not_both input status a count after asks refused
refused_or_asked input r a count after refused asks = refused

pub same_request : OneReading → (input : List ℕ) (r q : Request) → IsRequestOf input r → IsRequestOf input q → IsSameRequest r q
same_request law input r q (inl x) (inl y) = refused_once input r q x y
same_request law input r q (inl x) (inr (b, count, after, asks, with_body)) = absurd (refused_or_asked input r b count after x asks)
same_request law input r q (inr (a, count, after, asks, with_body)) (inl y) = absurd (refused_or_asked input q a count after y asks)
same_request law input r q (inr (a, n, after, asks, with_body)) (inr (b, m, rest, also, too)) =
    let same = same_asking input a b n m after rest asks also in
    let other : IsAskedWith b n after q = rw (same.1, same.2) too in
    one_with_body law a b n after r q same.0 with_body other

-- what is asked for isn't refused before its body is read
no_refusal : (a : Target) (body : List ℕ) (status : ℕ) → IsAskedBy a body (request.Refused status) → ⊥
no_refusal target.Queue body status is = absurd (let e = is in cc)
no_refusal a body status is = is

-- what is asked for is refused where its body ends too early
short_status : (a : Target) (count : ℕ) (after : List ℕ) (status : ℕ) → IsAskedWith a count after (request.Refused status) → status ≡ 400
short_status a count after status (inl whole) = absurd (no_refusal a (take count after) status whole.1)
short_status a count after status (inr short) = let is = short.1 in cc

pub same_refusal : (input : List ℕ) (h : RequestHead) (rest : List ℕ) (s t : ℕ) → ReadsRequest input h rest
    → IsRequestOf input (request.Refused s) → IsRequestOf input (request.Refused t) → s ≡ t
same_refusal input h rest s t reads (inl x) (inl y) = one_of_head input h rest s t reads x y
same_refusal input h rest s t reads (inl x) (inr (b, count, after, asks, with_body)) = absurd (not_both input s b count after asks x)
same_refusal input h rest s t reads (inr (a, count, after, asks, with_body)) (inl y) = absurd (not_both input t a count after asks y)
same_refusal input h rest s t reads (inr (a, n, after, asks, with_body)) (inr (b, m, left, also, too)) =
    short_status a n after s with_body ∙ sym (short_status b m left t too)
