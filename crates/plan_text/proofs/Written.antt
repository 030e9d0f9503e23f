-- The lines of steps, read again.
use Rattle.std.proofs.Common.{◌≡◌, ℕ, Bool, true, false, not, eqb, List, [], ◌∷◌, ◌++◌, map, flat_map, codes, refl, sym, ap, ap₂, ◌∙◌, subst, inl, inr, arith, append_assoc, append-nil}
use Rattle.std.proofs.lemmas.Bool.{cond-false, and_parts, and_from, both_ways}
use Rattle.std.proofs.lemmas.Bool.Decides.{nat_tests}
use Rattle.std.specs.List.{list_all, join_with_byte, onto_first}
use Rattle.num_ends.specs.Names.{IsGroundText, is_name, begins_name, continues_name}
use Rattle.std.specs.Prelude.{IsTrue}
use Rattle.plan_text.specs.declared.step.Step.{Step}
use Rattle.plan_text.specs.Plans.{is_space, lines_of, words_of, is_named, SpellsStep, LinesReadAs, ReadsAs, step_line}
use Rattle.num_ends.specs.Names.{folded}
use Rattle.plan_text.proofs.Fronts.{begins, front_here, past_here}
use Rattle.plan_text.proofs.Parts.{first_word}
use Rattle.plan_text.proofs.Spelled.{all_through, all_joined}

-- ---- the bytes of a name

name_byte_kept : (b : ℕ) → continues_name b ≡ true → folded b ≡ b
name_byte_kept b is = grind (arith, nat_tests)

name_byte_no_space : (b : ℕ) → continues_name b ≡ true → not (is_space b) ≡ true
name_byte_no_space b is = grind (arith, nat_tests)

name_byte_in_line : (b : ℕ) → continues_name b ≡ true → not (eqb b 10) ≡ true
name_byte_in_line b is = grind (arith, nat_tests)

begins_continues : (b : ℕ) → begins_name b ≡ true → continues_name b ≡ true
begins_continues b is = grind (arith, nat_tests)

bytes_of_name : (w : List ℕ) → is_name w ≡ true → list_all continues_name w ≡ true
bytes_of_name [] is = absurd (both_ways false refl is)
bytes_of_name (b ∷ bs) is =
    let both = and_parts (begins_name b) (list_all continues_name bs) is in
    and_from (continues_name b) (list_all continues_name bs) (begins_continues b both.0) both.1

bytes_kept : (bs : List ℕ) → list_all continues_name bs ≡ true → map folded bs ≡ bs
bytes_kept [] all = refl
bytes_kept (b ∷ bs) all =
    let both = and_parts (continues_name b) (list_all continues_name bs) all in
    ap₂ (λ (c : ℕ) (cs : List ℕ). c ∷ cs) (name_byte_kept b both.0) (bytes_kept bs both.1)

names_kept : (ws : List (List ℕ)) → list_all is_name ws ≡ true → map (map folded) ws ≡ ws
names_kept [] all = refl
names_kept (w ∷ ws) all =
    let both = and_parts (is_name w) (list_all is_name ws) all in
    ap₂ (λ (v : List ℕ) (vs : List (List ℕ)). v ∷ vs) (bytes_kept w (bytes_of_name w both.0)) (names_kept ws both.1)

-- ---- the words of names with spaces between

abbrev spaced : List (List ℕ) → List ℕ
spaced names = flat_map (λ name. 32 ∷ name) names

abbrev no_space : ℕ → Bool
no_space b = not (is_space b)

word_of_name : (w rest : List ℕ) → is_name w ≡ true → begins no_space rest ≡ false → words_of (w ++ rest) ≡ w ∷ words_of rest
word_of_name [] rest is stop = absurd (both_ways false refl is)
word_of_name (b ∷ bs) rest is stop =
    let all = all_through continues_name no_space name_byte_no_space (b ∷ bs) (bytes_of_name (b ∷ bs) is) in
    let first = (and_parts (no_space b) (list_all no_space bs) all).0 in
    let space : is_space b ≡ false = grind (arith, first) in
    first_word b (bs ++ rest) space
    ∙ ap₂ (λ (f r : List ℕ). f ∷ words_of r) (front_here no_space (b ∷ bs) rest all stop) (past_here no_space (b ∷ bs) rest all stop)

words_of_names : (w : List ℕ) (ws : List (List ℕ)) → is_name w ≡ true → list_all is_name ws ≡ true → words_of (w ++ spaced ws) ≡ w ∷ ws
words_of_names w [] is all = word_of_name w [] is refl
words_of_names w (v ∷ vs) is all =
    let both = and_parts (is_name v) (list_all is_name vs) all in
    word_of_name w (32 ∷ (v ++ spaced vs)) is refl ∙ ap (λ (ws : List (List ℕ)). w ∷ ws) (words_of_names v vs both.0 both.1)

-- ---- lines

in_line : ℕ → Bool
in_line b = not (eqb b 10)

name_in_line : (w : List ℕ) → is_name w ≡ true → list_all in_line w ≡ true
unfolding in_line
name_in_line w is = all_through continues_name in_line name_byte_in_line w (bytes_of_name w is)

spaced_in_line : (ws : List (List ℕ)) → list_all is_name ws ≡ true → list_all in_line (spaced ws) ≡ true
unfolding in_line
spaced_in_line [] all = refl
spaced_in_line (w ∷ ws) all =
    let both = and_parts (is_name w) (list_all is_name ws) all in
    all_joined in_line (32 ∷ w) (spaced ws) (name_in_line w both.0) (spaced_in_line ws both.1)

-- a line and what follows its line feed
line_cut : (line rest : List ℕ) → list_all in_line line ≡ true → lines_of (line ++ 10 ∷ rest) ≡ line ∷ lines_of rest
unfolding in_line
line_cut [] rest all = refl
line_cut (b ∷ bs) rest all =
    let both = and_parts (in_line b) (list_all in_line bs) all in
    let other : eqb b 10 ≡ false = grind (arith, both.0) in
    cond-false (eqb b 10) ([] ∷ lines_of (bs ++ 10 ∷ rest)) _ other ∙ ap (onto_first b) (line_cut bs rest both.1)

-- the line without its line feed
abbrev body : Step → List ℕ
body step = 40 ∷ ((step.name ++ spaced step.args) ++ 41 ∷ [])

body_spells : (step : Step) → IsTrue (is_named step) → SpellsStep (body step) step
body_spells step named =
    let both = and_parts (is_name step.name) (list_all is_name step.args) named in
    record {
      before = [];
      inside = step.name ++ spaced step.args;
      behind = [];
      spelled = refl;
      may_precede = inl refl;
      words = ap (map (map folded)) (words_of_names step.name step.args both.0 both.1) ∙ names_kept (step.name ∷ step.args) named;
      named = named;
      may_follow = inl refl;
    }

body_in_line : (step : Step) → IsTrue (is_named step) → list_all in_line (body step) ≡ true
unfolding in_line
body_in_line step named =
    let both = and_parts (is_name step.name) (list_all is_name step.args) named in
    all_joined in_line (step.name ++ spaced step.args) (41 ∷ [])
    (all_joined in_line step.name (spaced step.args) (name_in_line step.name both.0) (spaced_in_line step.args both.1)) refl

-- names with spaces between them
pub joined : (name : List ℕ) (names : List (List ℕ)) → join_with_byte 32 (name ∷ names) ≡ name ++ spaced names
joined name [] = sym (append-nil name)
joined name (other ∷ names) = ap (λ (t : List ℕ). name ++ 32 ∷ t) (joined other names)

line_is : (step : Step) (rest : List ℕ) → step_line step ++ rest ≡ body step ++ 10 ∷ rest
line_is step rest =
    ap (λ (t : List ℕ). 40 ∷ ((t ++ codes ")\n") ++ rest)) (joined step.name step.args)
    ∙ ap (λ (t : List ℕ). 40 ∷ t)
    (append_assoc (step.name ++ spaced step.args) (codes ")\n") rest
    ∙ sym (append_assoc (step.name ++ spaced step.args) (41 ∷ []) (10 ∷ rest)))

pub written_read : (steps : List Step) → IsTrue (list_all is_named steps) → ReadsAs (flat_map step_line steps) steps
written_read [] named = ([], [], refl, inl (inl refl, refl), refl)
written_read (step ∷ steps) named =
    let both = and_parts (is_named step) (list_all is_named steps) named in
    let rest = flat_map step_line steps in
    let lines : lines_of (step_line step ++ rest) ≡ body step ∷ lines_of rest =
    ap lines_of (line_is step rest) ∙ line_cut (body step) rest (body_in_line step both.0) in
    subst (λ (ls : List (List ℕ)). LinesReadAs ls (step ∷ steps)) (sym lines)
    (step ∷ [], steps, refl, inr (step, refl, body_spells step both.0), written_read steps both.1)

-- ---- ground texts

pub ground_text_spells : (text : List ℕ) (is : IsGroundText text) → SpellsStep text (record { name = is.name; args = is.objects })
ground_text_spells text is =
    let step : Step = record { name = is.name; args = is.objects } in
    let named = and_from (is_name is.name) (list_all is_name is.objects) is.a_name is.object_names in
    let same : body step ≡ text = ap (λ (t : List ℕ). 40 ∷ (t ++ 41 ∷ [])) (sym (joined is.name is.objects)) ∙ sym is.spelled in
    subst (λ (t : List ℕ). SpellsStep t step) same (body_spells step named)
