-- Each answer but that of a starved worker has a text.
use Rattle.std.proofs.Common.{◌≡◌, ◌≢◌, ◌<◌, ◌≤◌, ℕ, List, [], ◌∷◌, ◌++◌, All, Option, None, Some, Result, ◌^◌, length, map, codes, decimal, refl, sym, ap, subst, ◌∙◌, arith}
use Rattle.std.proofs.KnownBytes.{Appends-kept, Appends-nil, Keeps-refl}
use Rattle.std.proofs.lemmas.List.{get_or-map, length-map}
use Rattle.std.proofs.lemmas.List.Sorted.{All-permutation}
use Rattle.std.proofs.lemmas.Option.{get_or_from_slice_get}
use Rattle.std.specs.List.{concat}
use Rattle.ground_task.specs.Placed.{IsPlaced}
use Rattle.ground_task.specs.States.{StateValue}
use Rattle.ground_task.specs.Tasks.{TaskValue}
use Rattle.cert_text.specs.declared.cert.Cert.{Cert}
use Rattle.search_runs.proofs.Finding.{closed_if_listed}
use Rattle.search_runs.proofs.Places.{at_within}
use Rattle.search_runs.specs.Answers.{closed_states, path_to}
use Rattle.search_runs.specs.declared.answers.Answer.{Answer}
use Rattle.search_runs.specs.declared.answers.Answer.TheVariants as answer
use Rattle.search_runs.specs.declared.answers.Site.{Site}
use Rattle.search_runs.specs.declared.answers.Site.TheVariants as site
use Rattle.search_runs.specs.declared.nodes.Node.{Node}
use Rattle.search_records.proofs.Sound.{all_at, sound}
use Rattle.search_records.specs.Records.{answer_in, bounds, IsKnownSite, IsLegalRecord, IsSound}
use Rattle.search_records.specs.declared.record.Record.{Record}
use Rattle.answer_text.proofs.Order.{has_sorted}
use Rattle.answer_text.proofs.Nonempty.{certificate_byte, summary_byte, text_byte}
use Rattle.answer_text.specs.Sending.{IsAnswerSent, IsCut, IsSent, IsSummarySent, IsUnsent}
use Rattle.answer_text.specs.Texts.{AreLines, AreSorted, certificate_lines, certificate_text, full_line, HasText, IsTextOf, overflow_lines, plan_lines, summary_line}
use Rattle.answer_text.specs.declared.faults.Unsent.{Unsent}
use Rattle.answer_text.specs.declared.faults.Unsent.TheVariants as unsent

pub sound_record : (r : Record) → IsPlaced r.task.raw r.task.places → IsLegalRecord r → IsSound r
sound_record r placed (workers, is) =
    sound bounds (omega arith) (omega arith) (omega arith) (omega arith) r.task r.limit workers placed r is

pub told_as : (r : Record) (a : Answer) → HasText r → answer_in r ≡ Some a → a ≢ answer.Starved
told_as r a (b, is, other) found =
    let same : b ≡ a = (let both : Some b ≡ Some a = sym is ∙ found in cc) in
    subst (λ (c : Answer). c ≢ answer.Starved) same other

pub no_answer : {P : Type 0} (r : Record) → HasText r → answer_in r ≡ None → P
no_answer r (b, is, other) none = absurd (let bad : Some b ≡ None = sym is ∙ none in cc)

pub site_there : (r : Record) (n : ℕ) (p : Site) → IsKnownSite r n p → n < length r.nodes
site_there r n site.Goal known = known
site_there r n (site.Action a) known = known.0

pub exhausted_lines : (r : Record) (sorted : List StateValue) → AreSorted (closed_states r.nodes) sorted → AreLines r answer.Exhausted (certificate_lines r.task r.boxes sorted)
exhausted_lines r sorted are = (sorted, are, refl)

has_lines : (r : Record) (a : Answer) → a ≢ answer.Starved → (lines : List (List ℕ)) × AreLines r a lines
has_lines r (answer.Plan n) told = (plan_lines r.task (path_to r.nodes n), refl)
has_lines r answer.Exhausted told =
    let (sorted, are) = has_sorted (closed_states r.nodes) in
    (certificate_lines r.task r.boxes sorted, (sorted, are, refl))
has_lines r (answer.Over n place) told = (overflow_lines r.task (path_to r.nodes n) place, refl)
has_lines r answer.Expansions told = ((codes "LIMIT expansions " ++ decimal r.limit ++ codes "\n") ∷ [], refl)
has_lines r (answer.Filled full) told = (full_line full ∷ [], refl)
has_lines r answer.Starved told = absurd (told refl)

-- no byte of the text was sent
pub unsent_text : (r : Record) (a : Answer) (old : Option (List ℕ)) → a ≢ answer.Starved → (text : List ℕ) × IsTextOf r a text × IsUnsent old old text unsent.NoMemory
unsent_text r a old told =
    let (lines, are) = has_lines r a told in
    (concat lines, (lines, are, refl), Keeps-refl old)

-- the lines were sent
pub sent_lines : {T : Type 0} (r : Record) (a : Answer) (old new : Option (List ℕ)) (lines : List (List ℕ)) (result : Result T Unsent) → AreLines r a lines → IsSent old new (concat lines) result
    → (text : List ℕ) × IsTextOf r a text × IsSent old new text result
sent_lines r a old new lines result are is = (concat lines, (lines, are, refl), is)

pub has_text : (r : Record) (a : Answer) → a ≢ answer.Starved → (text : List ℕ) × IsTextOf r a text
has_text r a told =
    let (lines, are) = has_lines r a told in (concat lines, (lines, are, refl))

pub answer_sent : {T : Type 0} (r : Record) (a : Answer) (old new : Option (List ℕ)) (result : Result T Unsent) → answer_in r ≡ Some a → (text : List ℕ) × IsTextOf r a text × IsSent old new text result → IsAnswerSent r old new result
answer_sent r a old new result found (text, is, sent) = (a, text, found, is, sent)

pub summary_sent : {T : Type 0} (size : ℕ) (r : Record) (a : Answer) (old new : Option (List ℕ)) (result : Result T Unsent) → answer_in r ≡ Some a → IsSent old new (summary_line size r a) result → IsSummarySent size r old new result
summary_sent size r a old new result found sent = (a, found, sent)

-- ---- what was sent was written

unsent_cut : (old new : Option (List ℕ)) (text : List ℕ) (e : Unsent) → 0 < length text → IsUnsent old new text e → IsCut old new text
unsent_cut old new text unsent.Sink some is = is
unsent_cut old new text unsent.NoMemory some is = (0, some, Appends-kept old old new [] (Appends-nil old) is)
unsent_cut old new text unsent.CutShort some (n, begun, less, is) = (n, less, is)

pub answer_cut : (r : Record) (old new : Option (List ℕ)) (e : Unsent) → (a : Answer) × (text : List ℕ) × (answer_in r ≡ Some a) × IsTextOf r a text × IsUnsent old new text e
    → (a : Answer) × (text : List ℕ) × (answer_in r ≡ Some a) × IsTextOf r a text × IsCut old new text
answer_cut r old new e (a, text, found, is, sent) = (a, text, found, is, unsent_cut old new text e (text_byte r a text is) sent)

pub summary_cut : (size : ℕ) (r : Record) (old new : Option (List ℕ)) (e : Unsent) → (a : Answer) × (answer_in r ≡ Some a) × IsUnsent old new (summary_line size r a) e
    → (a : Answer) × (answer_in r ≡ Some a) × IsCut old new (summary_line size r a)
summary_cut size r old new e (a, found, sent) = (a, found, unsent_cut old new (summary_line size r a) e (summary_byte size r a) sent)

pub certificate_cut : (t : TaskValue) (cert : Cert) (old new : Option (List ℕ)) (e : Unsent) → IsUnsent old new (certificate_text t cert) e → IsCut old new (certificate_text t cert)
certificate_cut t cert old new e sent = unsent_cut old new (certificate_text t cert) e (certificate_byte t cert.boxes cert.states) sent

-- ---- the states of a certificate

closed_all : (P : StateValue → Type 0) (nodes : List (Node StateValue)) → All (λ x. P x.state) nodes → All P (closed_states nodes)
closed_all P nodes all =
    all_at P (closed_states nodes) (λ n s at.
    (let (m, y, there, same, closed) = closed_if_listed nodes s (n, at) in
    subst P same (subst (λ (z : Node StateValue). P z.state) (get_or_from_slice_get nodes m y y there) (all m y (at_within nodes m y there)))))

all_mapped : {X : Type 0} (P : StateValue → Type 0) (f : X → StateValue) (xs : List X) → All P (map f xs) → All (λ x. P (f x)) xs
all_mapped P f xs all = λ k d within.
    subst P (get_or-map f xs k d (f d) within) (all k (f d) (rw (length-map xs f) within))

-- what holds of each node's state holds of the sorted states of the closed ones
pub ready_states : {X : Type 0} (P : StateValue → Type 0) (nodes : List (Node StateValue)) (f : X → StateValue) (xs : List X) → All (λ x. P x.state) nodes → AreSorted (closed_states nodes) (map f xs) → All (λ x. P (f x)) xs
ready_states P nodes f xs all sorted = all_mapped P f xs (All-permutation P (closed_states nodes) (map f xs) sorted.same (closed_all P nodes all))

-- references to states of the task
pub ready_all : {X : Type 0} (P : StateValue → Type 0) (f : X → StateValue) (xs : List X) (states : List StateValue) → map f xs ≡ states → All P states → All (λ x. P (f x)) xs
ready_all P f xs states is all = all_mapped P f xs (subst (λ (l : List StateValue). All P l) (sym is) all)

pub as_many : {X : Type 0} (f : X → StateValue) (xs : List X) (states : List StateValue) → map f xs ≡ states → length states ≤ 1000000000 → length xs ≤ 2 ^ 30
as_many f xs states is few =
    let same : length xs ≡ length states = sym (length-map xs f) ∙ ap length is in
    omega (arith, same, few)
