-- How a call ends, over what it may tell and what of it was written.
use Rattle.std.proofs.Common.{◌≡◌, ◌≢◌, ℕ, ◌≤◌, ◌⊎◌, take, inl, inr, List, Option, None, Some, MatchResult, Result, Err, refl, sym, subst, ap, ap₂, ◌∙◌, arith}
use Rattle.std.proofs.lemmas.Bool.{cases_lt}
use Rattle.std.specs.Io.KnownBytes.{Appends, Keeps}
use Rattle.answer_text.specs.Sending.{IsAnswerSent, IsCut, IsCutWithin, IsSent, IsSummarySent, IsUnsent, IsUnsentCause}
use Rattle.answer_text.specs.Texts.{HasText, IsTextOf, status_of, summary_line}
use Rattle.answer_text.specs.declared.faults.Unsent.{Unsent}
use Rattle.answer_text.specs.declared.faults.Unsent.TheVariants as unsent
use Rattle.edge_io.specs.Causes.{Rose}
use Rattle.ground_task.specs.Placed.{IsPlaced}
use Rattle.pair_certificate.specs.declared.readings.TaskCertificate.{TaskCertificate}
use Rattle.run_answers.specs.declared.answers.Answer.{Answer}
use Rattle.search_records.proofs.Sound.{sound}
use Rattle.search_records.specs.Records.{IsLegalRecord, IsSound, answer_in, bounds}
use Rattle.search_records.specs.declared.record.Record.{Record}
use Rattle.search_runs.specs.declared.answers.Answer.{Answer as SearchAnswer}
use Rattle.search_runs.specs.declared.answers.Answer.TheVariants as variant
use Rattle.upgrade_command.specs.Answers.{upgraded}
use Rattle.enhsp_run.specs.Ends.{FailsAtSink, LacksMemory, TellsPart, memory_text}
use Rattle.enhsp_run.specs.Outcomes.{IsEnd, Nothing, Only, Tells, text_in}
use Rattle.enhsp_run.specs.Told.{IsSummaryOf, TellsRecord, Told, ended, plainly}
use Rattle.enhsp_run.specs.declared.ended.Ended.{Ended}
use Rattle.enhsp_run.specs.declared.outcomes.Form.{Form}
use Rattle.enhsp_run.specs.declared.outcomes.Form.TheVariants.{Whole, Summary}
use Rattle.enhsp_run.specs.declared.outcomes.Outcome.{Outcome}
use Rattle.enhsp_run.specs.declared.outcomes.Outcome.TheVariants.{Found, Upgraded, Written}

-- ---- what is told

told_part : (P Q : Told → Type 0) (IsPart : List ℕ → Type 0) (found : Option Record) → ((told : Told) → P told → Q told) → TellsPart P IsPart found → TellsPart Q IsPart found
told_part P Q IsPart found also is = record { told = is.told; may = also is.told is.may; kept = is.kept; part = is.part }

pub told_at_sink : (P Q : Told → Type 0) (before after : Option (List ℕ)) (found : Option Record) → ((told : Told) → P told → Q told) → FailsAtSink P before after found → FailsAtSink Q before after found
told_at_sink P Q before after found also (FailsAtSink.part f is) = FailsAtSink.part f (told_part P Q (IsCut before after) f also is)
told_at_sink P Q before after found also (FailsAtSink.line is) = FailsAtSink.line is

pub told_in_short : (P Q : Told → Type 0) (before after : Option (List ℕ)) (found : Option Record) → ((told : Told) → P told → Q told) → LacksMemory P before after found → LacksMemory Q before after found
told_in_short P Q before after found also (LacksMemory.part f is) = LacksMemory.part f (told_part P Q (IsCutWithin before after) f also is)
told_in_short P Q before after found also (LacksMemory.line is) = LacksMemory.line is

-- what may tell more than it does
pub more_end : (P Q : Told → Type 0) (before after : Option (List ℕ)) (faults now : ℕ) (e : Ended) → ((told : Told) → P told → Q told) → IsEnd P before after faults now e → IsEnd Q before after faults now e
more_end P Q before after faults now e also is = record {
  known = is.known;
  answered = λ small. let a = is.answered small in (a.0, also a.0 a.1, a.2, a.3, a.4);
  sink_fault = is.sink_fault;
  cut = λ seven. told_at_sink P Q before after e.found also (is.cut seven);
  no_memory = λ eight. let a = is.no_memory eight in (a.0, told_in_short P Q before after e.found also a.1);
}

-- ---- each end

module _ (May : Told → Type 0) (before after : Option (List ℕ)) (faults now : ℕ) (e : Ended) where
  -- all was written
  pub whole_end : (told : Told) → May told → told.status ≤ 6 → e ≡ ended told → Appends before after told.text → now ≡ faults → IsEnd May before after faults now e
  whole_end told may small is bytes kept =
      let status : e.status ≡ told.status = ap (λ (x : Ended). x.status) is in
      record {
        known = omega (arith, status, small);
        answered = λ less. (told, may, is, bytes, kept);
        sink_fault = λ seven. absurd (omega (arith, status, small, seven));
        cut = λ seven. absurd (omega (arith, status, small, seven));
        no_memory = λ eight. absurd (omega (arith, status, small, eight));
      }

  pub sink_end : e.status ≡ 7 → Rose faults now → FailsAtSink May before after e.found → IsEnd May before after faults now e
  sink_end seven rose cut = record {
    known = omega (arith, seven);
    answered = λ less. absurd (omega (arith, seven, less));
    sink_fault = λ _. rose;
    cut = λ _. cut;
    no_memory = λ eight. absurd (omega (arith, seven, eight));
  }

  pub memory_end : e.status ≡ 8 → now ≡ faults → LacksMemory May before after e.found → IsEnd May before after faults now e
  memory_end eight kept lacks = record {
    known = omega (arith, eight);
    answered = λ less. absurd (omega (arith, eight, less));
    sink_fault = λ seven. absurd (omega (arith, eight, seven));
    cut = λ seven. absurd (omega (arith, eight, seven));
    no_memory = λ _. (kept, lacks);
  }

same_end : (e : Ended) (told : Told) → e.status ≡ told.status → e.found ≡ told.found → e ≡ ended told
same_end e told status found = ap₂ (λ (s : ℕ) (f : Option Record). record { status = s; found = f }) status found

-- ---- a line, an answer, and a text that was sent

-- without a record
module _ (before after : Option (List ℕ)) (faults now : ℕ) (e : Ended) (none : e.found ≡ None) where
  pub line_end : e.status ≡ 8 → Appends before after memory_text → now ≡ faults → IsEnd Nothing before after faults now e
  line_end eight bytes kept =
      memory_end Nothing before after faults now e eight kept (subst (LacksMemory Nothing before after) (sym none) (LacksMemory.line bytes))

  pub line_cut : e.status ≡ 7 → IsCut before after memory_text → Rose faults now → IsEnd Nothing before after faults now e
  line_cut seven bytes rose =
      sink_end Nothing before after faults now e seven rose (subst (FailsAtSink Nothing before after) (sym none) (FailsAtSink.line bytes))

  pub answer_end : (answer : Answer) → answer.status ≤ 6 → e.status ≡ answer.status → Appends before after answer.text → now ≡ faults → IsEnd (Only (plainly answer)) before after faults now e
  answer_end answer small status bytes kept =
      whole_end (Only (plainly answer)) before after faults now e (plainly answer) refl small (same_end e (plainly answer) status none) bytes kept

  pub answer_cut : (answer : Answer) → e.status ≡ 7 → IsCut before after answer.text → Rose faults now → IsEnd (Only (plainly answer)) before after faults now e
  answer_cut answer seven bytes rose =
      sink_end (Only (plainly answer)) before after faults now e seven rose
      (FailsAtSink.part e.found (record { told = plainly answer; may = refl; kept = none; part = bytes }))

-- what is told with a record
module _ (told : Told) (before after : Option (List ℕ)) (faults now : ℕ) (e : Ended) (found : e.found ≡ told.found) where
  pub sent_whole : told.status ≤ 6 → e.status ≡ told.status → Appends before after told.text → now ≡ faults → IsEnd (Only told) before after faults now e
  sent_whole small status bytes kept = whole_end (Only told) before after faults now e told refl small (same_end e told status found) bytes kept

  pub sent_cut : e.status ≡ 7 → IsCut before after told.text → Rose faults now → IsEnd (Only told) before after faults now e
  sent_cut seven bytes rose =
      sink_end (Only told) before after faults now e seven rose (FailsAtSink.part e.found (record { told = told; may = refl; kept = found; part = bytes }))

  pub sent_short : e.status ≡ 8 → IsCutWithin before after told.text → now ≡ faults → IsEnd (Only told) before after faults now e
  sent_short eight bytes kept =
      memory_end (Only told) before after faults now e eight kept (LacksMemory.part e.found (record { told = told; may = refl; kept = found; part = bytes }))

-- ---- nothing was written before

kept_then : (before mid after : Option (List ℕ)) (text : List ℕ) → Keeps before mid → Appends mid after text → Appends before after text
kept_then None mid after text kept more = tt
kept_then (Some xs) None after text kept more = absurd kept
kept_then (Some xs) (Some ys) None text kept more = absurd more
kept_then (Some xs) (Some ys) (Some zs) text kept more = cc (kept, more)

line_kept : (before mid after : Option (List ℕ)) (found : Option Record) → Keeps before mid → FailsAtSink Nothing mid after found → FailsAtSink Nothing before after found
line_kept before mid after found kept (FailsAtSink.part f is) = absurd is.may
line_kept before mid after found kept (FailsAtSink.line is) = FailsAtSink.line (is.0, is.1, kept_then before mid after (take is.0 memory_text) kept is.2)

whole_line_kept : (before mid after : Option (List ℕ)) (found : Option Record) → Keeps before mid → LacksMemory Nothing mid after found → LacksMemory Nothing before after found
whole_line_kept before mid after found kept (LacksMemory.part f is) = absurd is.may
whole_line_kept before mid after found kept (LacksMemory.line is) = LacksMemory.line (kept_then before mid after memory_text kept is)

-- the line on memory, where nothing was written before it
pub late_end : (before mid after : Option (List ℕ)) (faults later now : ℕ) (e : Ended) → Keeps before mid → later ≡ faults → IsEnd Nothing mid after later now e → IsEnd Nothing before after faults now e
late_end before mid after faults later now e kept same is = record {
  known = is.known;
  answered = λ small. absurd (is.answered small).1;
  sink_fault = λ seven. subst (λ (n : ℕ). Rose n now) same (is.sink_fault seven);
  cut = λ seven. line_kept before mid after e.found kept (is.cut seven);
  no_memory = λ eight. let a = is.no_memory eight in (a.0 ∙ same, whole_line_kept before mid after e.found kept a.1);
}

-- ---- the status

-- a call that tells no more than what ends so, ends so, or by a fault of the sink, or for want of memory
pub ends_by : (P : Told → Type 0) (E : ℕ → Type 0) (before after : Option (List ℕ)) (faults now : ℕ) (e : Ended) → IsEnd P before after faults now e → ((told : Told) → P told → E told.status) → (e.status ≡ 7) ⊎ (e.status ≡ 8) ⊎ E e.status
ends_by P E before after faults now e is also =
    elim (cases_lt e.status 7) [
      | inl less ↦
          let a = is.answered (omega (arith, less)) in
          inr (inr (subst E (sym (ap (λ (x : Ended). x.status) a.2)) (also a.0 a.1)))
      | inr more ↦ elim (cases_lt 7 e.status) [ inl eight ↦ inr (inl (omega (arith, eight, is.known))) | inr seven ↦ inl (omega (arith, more, seven)) ]
    ]

-- ---- texts that are sent

-- what is told of this answer of a record
abbrev told_by : Record → SearchAnswer → List ℕ → Told
told_by r answer text = record { status = status_of answer; text = text; found = Some r }

pub whole_sent : {T : Type 0} (form : Form) (r : Record) (before after : Option (List ℕ)) (result : Result T Unsent) → form ≡ Whole → IsAnswerSent r before after result
    → (told : Told) × TellsRecord (text_in form) r told × IsSent before after told.text result
whole_sent form r before after result is (answer, text, answered, is_text, sent) =
    let tells : TellsRecord IsTextOf r (told_by r answer text) = record { answer = answer; is_answer = answered; status = refl; text = is_text; found = refl } in
    (told_by r answer text, subst (λ (f : Form). TellsRecord (text_in f) r (told_by r answer text)) (sym is) tells, sent)

pub summary_sent : {T : Type 0} (form : Form) (size : ℕ) (r : Record) (before after : Option (List ℕ)) (result : Result T Unsent) → form ≡ Summary size → IsSummarySent size r before after result
    → (told : Told) × TellsRecord (text_in form) r told × IsSent before after told.text result
summary_sent form size r before after result is (answer, answered, sent) =
    let text = summary_line size r answer in
    let tells : TellsRecord (IsSummaryOf size) r (told_by r answer text) = record { answer = answer; is_answer = answered; status = refl; text = refl; found = refl } in
    (told_by r answer text, subst (λ (f : Form). TellsRecord (text_in f) r (told_by r answer text)) (sym is) tells, sent)

-- what a legal record names is there
pub sound_record : (r : Record) → IsPlaced r.task.raw r.task.places → IsLegalRecord r → IsSound r
sound_record r placed (workers, legal) =
    sound bounds (omega arith) (omega arith) (omega arith) (omega arith) r.task r.limit workers placed r legal

-- the status of an answer that is told
pub small_answer : (r : Record) (status : ℕ) → HasText r → ((answer : SearchAnswer) → answer_in r ≡ Some answer → status ≡ status_of answer) → status ≤ 6
small_answer r status (answer, answered, told) is =
    let small : status_of answer ≤ 6 = at answer told in subst (λ (n : ℕ). n ≤ 6) (sym (is answer answered)) small
  where
    at : (a : SearchAnswer) → a ≢ variant.Starved → status_of a ≤ 6
    at (variant.Plan n) told = omega arith
    at variant.Exhausted told = omega arith
    at (variant.Over n place) told = omega arith
    at variant.Expansions told = omega arith
    at (variant.Filled full) told = omega arith
    at variant.Starved told = absurd (told refl)

-- by the fault of sending
module _ {T : Type 0} (told : Told) (before mid : Option (List ℕ)) (faults later : ℕ) (sent : Result T Unsent) (fault : Unsent) (is : sent ≡ Err fault) (part : IsSent before mid told.text sent) (cause : MatchResult sent (λ _. later ≡ faults) (IsUnsentCause faults later)) where
  part_of : (f : Unsent) → fault ≡ f → IsUnsent before mid told.text f × IsUnsentCause faults later f
  part_of f same =
      let all : sent ≡ Err f = is ∙ ap Err same in (
        subst (IsSent before mid told.text) all part,
        subst (λ (x : Result T Unsent). MatchResult x (λ _. later ≡ faults) (IsUnsentCause faults later)) all cause,
      )

  pub sink_failed : (e : Ended) → fault ≡ unsent.Sink → e.status ≡ 7 → e.found ≡ told.found → IsEnd (Only told) before mid faults later e
  sink_failed e same seven found =
      let parts = part_of unsent.Sink same in sent_cut told before mid faults later e found seven parts.0 parts.1

  pub cut_short : (e : Ended) → fault ≡ unsent.CutShort → e.status ≡ 8 → e.found ≡ told.found → IsEnd (Only told) before mid faults later e
  cut_short e same eight found =
      let parts = part_of unsent.CutShort same in sent_short told before mid faults later e found eight parts.0 parts.1

  pub not_begun : (after : Option (List ℕ)) (now : ℕ) (e : Ended) → fault ≡ unsent.NoMemory → IsEnd Nothing mid after later now e → IsEnd (Only told) before after faults now e
  not_begun after now e same line =
      let parts = part_of unsent.NoMemory same in
      more_end Nothing (Only told) before after faults now e (λ t none. absurd none) (late_end before mid after faults later now e parts.0 parts.1 line)

-- ---- outcomes

pub small_written : (o : Outcome) (answer : Answer) → o ≡ Written answer → ((told : Told) → Tells o told → told.status ≤ 6) → answer.status ≤ 6
small_written o answer is small = (subst (λ (x : Outcome). (told : Told) → Tells x told → told.status ≤ 6) is small) (plainly answer) refl

module _ (o : Outcome) (before after : Option (List ℕ)) (faults now : ℕ) (e : Ended) where
  pub written_end : (answer : Answer) → o ≡ Written answer → IsEnd (Only (plainly answer)) before after faults now e → IsEnd (Tells o) before after faults now e
  written_end answer is ends = subst (λ (x : Outcome). IsEnd (Tells x) before after faults now e) (sym is) ends

  pub upgraded_end : (c : TaskCertificate) → o ≡ Upgraded c → IsEnd (Only (plainly (upgraded c.task c.cert))) before after faults now e → IsEnd (Tells o) before after faults now e
  upgraded_end c is ends = subst (λ (x : Outcome). IsEnd (Tells x) before after faults now e) (sym is) ends

  pub found_end : (form : Form) (r : Record) → o ≡ Found form r → (told : Told) × TellsRecord (text_in form) r told × IsEnd (Only told) before after faults now e → IsEnd (Tells o) before after faults now e
  found_end form r is (told, tells, ends) =
      subst (λ (x : Outcome). IsEnd (Tells x) before after faults now e) (sym is)
      (more_end (Only told) (TellsRecord (text_in form) r) before after faults now e (λ t same. subst (TellsRecord (text_in form) r) (sym same) tells) ends)
