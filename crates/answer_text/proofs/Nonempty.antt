-- No line of a text is empty, and no text is.
use Rattle.std.proofs.Common.{◌≡◌, ℕ, ◌<◌, List, [], ◌∷◌, ◌++◌, All, length, get_or, map, codes, decimal, sym, subst, arith, length-append}
use Rattle.std.proofs.lemmas.List.Elements.{All-append, All-cons, All-map, All-nil}
use Rattle.std.specs.List.{concat}
use Rattle.ground_task.specs.States.{StateValue}
use Rattle.ground_task.specs.Tasks.{TaskValue}
use Rattle.box_model.specs.declared.state_box.StateBox.{StateBox}
use Rattle.cert_text.specs.Lines.{short_box_line, state_facts, state_fluents, state_line, decimals_of, version_fact_parts, version_fluent_parts}
use Rattle.cert_text.specs.declared.cert.Version.TheVariants.{Short}
use Rattle.search_runs.specs.Answers.{path_to}
use Rattle.search_runs.specs.declared.answers.Answer.{Answer}
use Rattle.search_runs.specs.declared.answers.Answer.TheVariants as answer
use Rattle.search_runs.specs.declared.answers.Full.{Full}
use Rattle.search_runs.specs.declared.answers.Full.TheVariants.{States, Boxes}
use Rattle.search_runs.specs.declared.answers.Site.{Site}
use Rattle.search_records.specs.declared.record.Record.{Record}
use Rattle.answer_text.specs.Texts.{action_text, AreLines, certificate_lines, claim_lines, full_line, IsTextOf, kept_text, overflow_lines, plan_lines, search_text, site_text, status_of, step_line, summary_line, task_text}

abbrev pub HasByte : List ℕ → Type 0
HasByte line = 0 < length line

feed_behind : (text : List ℕ) → HasByte (text ++ codes "\n")
feed_behind text = omega (arith, length-append text (codes "\n"))

prefixed : (front text : List ℕ) → HasByte front → HasByte (front ++ text)
prefixed front text some = omega (arith, length-append front text, some)

first_some : (line : List ℕ) (lines : List (List ℕ)) → HasByte line → All HasByte lines → All HasByte (line ∷ lines)
first_some line lines some rest = All-cons HasByte line lines some rest

one_some : (line : List ℕ) → HasByte line → All HasByte (line ∷ [])
one_some line some = All-cons HasByte line [] some (All-nil HasByte)

each_some : {X : Type 0} (text : X → List ℕ) (xs : List X) → ((x : X) → HasByte (text x)) → All HasByte (map text xs)
each_some text xs some = All-map HasByte text xs (λ k d within. some (get_or xs k d))

step_some : (t : TaskValue) (a : ℕ) → HasByte (step_line t a)
step_some t a = feed_behind (action_text t a)

-- ---- first lines

plan_some : (path : List ℕ) → HasByte (codes "; PLAN " ++ decimal (length path) ++ codes "\n")
plan_some path = prefixed (codes "; PLAN ") (decimal (length path) ++ codes "\n") (omega arith)

overflow_some : (t : TaskValue) (place : Site) → HasByte (codes "OVERFLOW " ++ site_text t place ++ codes "\n")
overflow_some t place = prefixed (codes "OVERFLOW ") (site_text t place ++ codes "\n") (omega arith)

limit_some : (n : ℕ) → HasByte (codes "LIMIT expansions " ++ decimal n ++ codes "\n")
limit_some n = prefixed (codes "LIMIT expansions ") (decimal n ++ codes "\n") (omega arith)

version_some : HasByte (codes "UNSOLVABLE 2\n")
version_some = omega arith

end_some : HasByte (codes "end\n")
end_some = omega arith

states_some : HasByte (codes "LIMIT states 500000\n")
states_some = omega arith

boxes_some : HasByte (codes "LIMIT boxes 40000\n")
boxes_some = omega arith

full_some : (full : Full) → HasByte (full_line full)
full_some States = states_some
full_some Boxes = boxes_some

box_some : (t : TaskValue) (b : StateBox) → HasByte (short_box_line t.raw b)
box_some t b =
    prefixed (codes "box") (version_fact_parts Short t.raw.facts b.facts ++ version_fluent_parts Short t.raw.fluents b.fluents ++ codes "\n") (omega arith)

state_some : (t : TaskValue) (s : StateValue) → HasByte (state_line t s)
state_some t s =
    prefixed (codes "state") (state_facts t.raw.facts s.facts ++ state_fluents t.raw.fluents (decimals_of t.places s.values) ++ codes "\n") (omega arith)

-- ---- all lines

pub certificate_some : (t : TaskValue) (boxes : List StateBox) (states : List StateValue) → All HasByte (certificate_lines t boxes states)
certificate_some t boxes states =
    let ends : All HasByte (codes "end\n" ∷ []) = one_some (codes "end\n") end_some in
    let behind : All HasByte (map (state_line t) states ++ codes "end\n" ∷ []) =
    All-append HasByte (map (state_line t) states) (codes "end\n" ∷ []) (each_some (state_line t) states (state_some t)) ends in
    first_some (codes "UNSOLVABLE 2\n") (claim_lines t boxes states) version_some
    (All-append HasByte (map (short_box_line t.raw) boxes) (map (state_line t) states ++ codes "end\n" ∷ []) (each_some (short_box_line t.raw) boxes (box_some t)) behind)

-- there is a line, and none is empty
abbrev AreBytes : List (List ℕ) → Type 0
AreBytes lines = All HasByte lines × HasByte (concat lines)

started : (line : List ℕ) (lines : List (List ℕ)) → HasByte line → All HasByte lines → AreBytes (line ∷ lines)
started line lines some rest =
    (first_some line lines some rest, prefixed line (concat lines) some)

pub certificate_bytes : (t : TaskValue) (boxes : List StateBox) (states : List StateValue) → AreBytes (certificate_lines t boxes states)
certificate_bytes t boxes states =
    (certificate_some t boxes states, prefixed (codes "UNSOLVABLE 2\n") (concat (claim_lines t boxes states)) version_some)

same_bytes : (lines others : List (List ℕ)) → lines ≡ others → AreBytes others → AreBytes lines
same_bytes lines others is are = subst (λ (l : List (List ℕ)). AreBytes l) (sym is) are

lines_bytes : (r : Record) (a : Answer) (lines : List (List ℕ)) → AreLines r a lines → AreBytes lines
lines_bytes r (answer.Plan n) lines is =
    let path = path_to r.nodes n in
    same_bytes lines (plan_lines r.task path) is (started (codes "; PLAN " ++ decimal (length path) ++ codes "\n") (map (step_line r.task) path) (plan_some path) (each_some (step_line r.task) path (step_some r.task)))
lines_bytes r answer.Exhausted lines (sorted, are, is) =
    same_bytes lines (certificate_lines r.task r.boxes sorted) is (certificate_bytes r.task r.boxes sorted)
lines_bytes r (answer.Over n place) lines is =
    let path = path_to r.nodes n in
    same_bytes lines (overflow_lines r.task path place) is (started (codes "OVERFLOW " ++ site_text r.task place ++ codes "\n") (map (step_line r.task) path) (overflow_some r.task place) (each_some (step_line r.task) path (step_some r.task)))
lines_bytes r answer.Expansions lines is =
    same_bytes lines ((codes "LIMIT expansions " ++ decimal r.limit ++ codes "\n") ∷ []) is (started (codes "LIMIT expansions " ++ decimal r.limit ++ codes "\n") [] (limit_some r.limit) (All-nil HasByte))
lines_bytes r (answer.Filled full) lines is =
    same_bytes lines (full_line full ∷ []) is (started (full_line full) [] (full_some full) (All-nil HasByte))
lines_bytes r answer.Starved lines is = absurd is

pub lines_some : (r : Record) (a : Answer) (lines : List (List ℕ)) → AreLines r a lines → All HasByte lines
lines_some r a lines are = (lines_bytes r a lines are).0

-- ---- texts

pub certificate_byte : (t : TaskValue) (boxes : List StateBox) (states : List StateValue) → HasByte (concat (certificate_lines t boxes states))
certificate_byte t boxes states = (certificate_bytes t boxes states).1

pub text_byte : (r : Record) (a : Answer) (text : List ℕ) → IsTextOf r a text → HasByte text
text_byte r a text (lines, are, is) = subst HasByte (sym is) (lines_bytes r a lines are).1

pub summary_byte : (size : ℕ) (r : Record) (a : Answer) → HasByte (summary_line size r a)
summary_byte size r a = feed_behind (search_text size (status_of a) ++ kept_text r ++ task_text r.task)
