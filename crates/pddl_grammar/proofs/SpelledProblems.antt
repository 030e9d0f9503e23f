-- Problems: what a text says without a fault is what it spells.
use Rattle.std.proofs.Common.{◌≡◌, ◌≢◌, ℕ, ◌⊎◌, true, false, ◌||◌, inl, inr, List, [], ◌∷◌, ◌++◌, map, take, drop, Option, Some, None, refl, sym, ap, subst, ◌∙◌}
use Rattle.std.specs.Prelude.{bytes_eq, codes, flat_map, filter_map, is_some, if◌then◌else◌}
use Rattle.std.specs.Option.{option_map_or}
use Rattle.std.proofs.lemmas.Bool.{cases_Bool, or_cases, or_left, or_right}
use Rattle.std.proofs.lemmas.Option.{same_Some}
use Rattle.num_ends.specs.Names.{is_name}
use Rattle.sexp_text.specs.declared.trees.Tree.{Tree}
use Rattle.sexp_text.specs.Trees.{AreTrees}
use Rattle.sexp_text.proofs.OneAnswer.{one_list}
use Rattle.pddl_terms.specs.declared.names.Name.{Name}
use Rattle.pddl_terms.specs.declared.names.Typed.{Typed}
use Rattle.pddl_terms.specs.declared.conditions.Cond.{Cond}
use Rattle.pddl_terms.specs.declared.files.Problem.{Problem}
use Rattle.pddl_terms.specs.declared.limits.What.TheVariants as what
use Rattle.pddl_trees.specs.declared.faults.Fault.{Fault}
use Rattle.pddl_trees.specs.Words.{is_among}
use Rattle.pddl_trees.specs.Forms.{Form, Parsed, both, extra, misfit, shape_at}
use Rattle.pddl_trees.specs.Trees.{form_of, forms_of, parts_of, place_of}
use Rattle.pddl_trees.specs.TypedLists.{Listed, objects_kind, typed_list}
use Rattle.pddl_trees.specs.Names.{is_headed, is_word, only_name}
use Rattle.pddl_trees.specs.Declarations.{requirement_faults}
use Rattle.pddl_trees.specs.Initial.{Entry, entry_of, entries_in}
use Rattle.pddl_trees.specs.Sections.{content_named, content_of, place_named, problem_sections, section_named, objects_in, requirements_faults, sections_of, word_and_repeat_faults}
use Rattle.pddl_trees.specs.Goals.{goal_of, is_direction, metric_faults, goal_in, metric_in}
use Rattle.pddl_trees.specs.Texts.{SaysWithoutFault}
use Rattle.pddl_trees.specs.Leaves.{all_leaves, leaf_faults, leaves_of}
use Rattle.pddl_trees.specs.Problems.{domain_name_faults, needed_section, problem_in, problem_leaves, problem_of_sections, problem_parts, problem_tree, section_leaves}
use Rattle.pddl_trees.specs.Frames.{frame_of, further_trees}
use Rattle.pddl_grammar.specs.Sections.{AreSections, HasSection, IsFrame}
use Rattle.pddl_grammar.specs.Trees.{Begins, IsWordAt}
use Rattle.pddl_grammar.specs.Problems.{HasFitSections, HasMetric, NamesDomain, SpellsProblem, SpellsProblemTree}
use Rattle.pddl_grammar.specs.Leaves.{IsFitLeaf}
use Rattle.pddl_grammar.specs.Conditions.{SpellsCond}
use Rattle.pddl_grammar.proofs.Spelled.{Says, begun_head, begun_headed, both_values, headed_begins, headed_word, is_word_there, nils, no_more, parts_listed, parts_there, past_two, same_word, too_few, word_at, word_is}
use Rattle.pddl_grammar.proofs.SpelledLeaves.{begun_leaves, word_leaves}
use Rattle.pddl_grammar.proofs.SpelledMarks.{fit_leaf_said, leaf_is_fit, leaves_fit, leaves_said}
use Rattle.pddl_grammar.proofs.SpelledLists.{typed_list_fits, typed_list_said}
use Rattle.pddl_grammar.proofs.SpelledConditions.{cond_fits, cond_said}
use Rattle.pddl_grammar.proofs.SpelledEntries.{entries_fit, entries_said}
use Rattle.pddl_grammar.proofs.SpelledSections.{Found, content_fits, content_leaves, content_said, find_section, found_content, found_section, keys_fit, keys_said, none_from, none_in, section_there, sections_fit, sections_said}
use Rattle.pddl_grammar.proofs.SpelledSchemas.{content_begun}
use Rattle.pddl_grammar.proofs.SpelledFrames.{frame_fits, frame_parts, frame_said, only_name_fits, only_name_said}

-- ---- sections that must be there

needed_there : (text : List ℕ) (at : ℕ) (word : List ℕ) (ss : List Tree) → needed_section text at word ss ≡ [] → Found text word ss
needed_there text at word ss e =
    elim (find_section text word ss) [
      | inl found ↦ found
      | inr none ↦ absurd (cc (sym (ap (λ (o : Option Tree). if is_some o then [] else shape_at at ∷ []) none.0) ∙ e))
    ]

needed_said : (text : List ℕ) (at : ℕ) (word : List ℕ) (ss : List Tree) (s : Tree) → section_named text word ss ≡ Some s → needed_section text at word ss ≡ []
needed_said text at word ss s is = ap (λ (o : Option Tree). if is_some o then [] else shape_at at ∷ []) is

-- ---- the goal

goal_fits_from : (text : List ℕ) (at : ℕ) (ts : List Tree) → (goal_of at (forms_of text ts)).faults ≡ [] → all_leaves text ts ≡ []
    → (t : Tree) × (c : Cond) × (ts ≡ t ∷ []) × ((goal_of at (forms_of text ts)).value ≡ Some c) × SpellsCond text t c
goal_fits_from text at [] e leaves = absurd (cc e)
goal_fits_from text at (t ∷ []) e leaves =
    let found = cond_fits text t (nils (form_of text t).cond.faults [] e).0 (nils (leaves_of text t) [] leaves).0 in
    (t, found.0, refl, found.1, found.2)
goal_fits_from text at (t ∷ u ∷ us) e leaves =
    let parts = nils (form_of text t).cond.faults (extra 1 (forms_of text (t ∷ u ∷ us))) e in
    absurd (cc parts.1)

-- the goal of a problem, in its section
record IsGoal (text : List ℕ) (ss : List Tree) (said : Parsed Cond) : Type 0 where
  tree : Tree
  goal : Cond
  there : HasSection text (codes ":goal") ss (tree ∷ [])
  value : said.value ≡ Some goal
  spelled : SpellsCond text tree goal

goal_fits : (text : List ℕ) (ss : List Tree) → Found text (codes ":goal") ss → (goal_in text ss).faults ≡ [] → all_leaves text (content_named text (codes ":goal") ss) ≡ [] → IsGoal text ss (goal_in text ss)
goal_fits text ss found e leaves =
    let s = found.section in
    let content : content_of s ≡ found.parts = content_begun text s (form_of text s).at (codes ":goal") found.parts found.list in
    let is : goal_in text ss ≡ goal_of (place_of text s) (forms_of text found.parts) =
    ap (λ (o : Option Tree). option_map_or (λ t. goal_of (place_of text t) (forms_of text (content_of t))) o (record { value = None; faults = [] })) found.named
    ∙ ap (λ (l : List Tree). goal_of (place_of text s) (forms_of text l)) content in
    let fit = sym (ap (all_leaves text) (found_content text (codes ":goal") ss found)) ∙ leaves in
    let goal = goal_fits_from text (place_of text s) found.parts (sym (ap (λ (p : Parsed Cond). p.faults) is) ∙ e) fit in
    record {
      tree = goal.0;
      goal = goal.1;
      there = subst (HasSection text (codes ":goal") ss) goal.2 (found_section text (codes ":goal") ss found);
      value = ap (λ (p : Parsed Cond). p.value) is ∙ goal.3;
      spelled = goal.4;
    }

goal_said : (text : List ℕ) (ss : List Tree) (s t : Tree) (c : Cond) → section_named text (codes ":goal") ss ≡ Some s → content_of s ≡ t ∷ [] → SpellsCond text t c → Says (goal_in text ss) c
goal_said text ss s t c named content spelled =
    let said = cond_said text t c spelled in
    let is : goal_in text ss ≡ goal_of (place_of text s) (forms_of text (t ∷ [])) =
    ap (λ (o : Option Tree). option_map_or (λ t. goal_of (place_of text t) (forms_of text (content_of t))) o (record { value = None; faults = [] })) named
    ∙ ap (λ (l : List Tree). goal_of (place_of text s) (forms_of text l)) content in
    subst (λ (p : Parsed Cond). Says p c) (sym is) (said.0, no_more (form_of text t).cond.faults [] said.1 refl)

-- ---- the domain's name

name_fits_in : (text : List ℕ) (known : List (List ℕ)) (ss : List Tree) → AreSections text known ss → domain_name_faults text ss ≡ [] → NamesDomain text ss
name_fits_in text known ss sections e parts x =
    let there = section_there text known (codes ":domain") ss parts x sections refl in
    let faultless : (only_name (place_of text x.section) (forms_of text parts)).faults ≡ [] =
    ap (λ (l : List Tree). (only_name (place_of text x.section) (forms_of text l)).faults) (sym there.1)
    ∙ sym (ap (λ (o : Option Tree). option_map_or (λ s. (only_name (place_of text s) (forms_of text (content_of s))).faults) o []) there.0) ∙ e in
    let found = only_name_fits text (place_of text x.section) parts faultless in
    (found.tree, found.name, found.alone, found.spelled)

name_said_in : (text : List ℕ) (ss : List Tree) → NamesDomain text ss → domain_name_faults text ss ≡ []
name_said_in text ss names =
    elim (find_section text (codes ":domain") ss) [
      | inl found ↦
          let s = found.section in
          let named = names found.parts (found_section text (codes ":domain") ss found) in
          let content = content_begun text s (form_of text s).at (codes ":domain") found.parts found.list in
          ap (λ (o : Option Tree). option_map_or (λ t. (only_name (place_of text t) (forms_of text (content_of t))).faults) o []) found.named
          ∙ ap (λ (l : List Tree). (only_name (place_of text s) (forms_of text l)).faults) (content ∙ named.2)
          ∙ (only_name_said text (place_of text s) named.0 named.1 named.3).1
      | inr none ↦ ap (λ (o : Option Tree). option_map_or (λ t. (only_name (place_of text t) (forms_of text (content_of t))).faults) o []) none.0
    ]

-- ---- the metric

abbrev directions : List (List ℕ)
directions = codes "minimize" ∷ codes "maximize" ∷ []

direction_word : (text : List ℕ) (t : Tree) → is_direction (form_of text t) ≡ true → (w : List ℕ) × IsWordAt text t (form_of text t).at w × (is_among w directions ≡ true)
direction_word text t h =
    elim (or_cases (is_word (codes "minimize") (form_of text t)) (is_word (codes "maximize") (form_of text t)) h) [
      | inl least ↦ (codes "minimize", word_at text t (codes "minimize") (is_word_there (form_of text t) (codes "minimize") least), refl)
      | inr most ↦ (codes "maximize", word_at text t (codes "maximize") (is_word_there (form_of text t) (codes "maximize") most), refl)
    ]

direction_is : (w : List ℕ) → is_among w directions ≡ true → (w ≡ codes "minimize") ⊎ (w ≡ codes "maximize")
direction_is w h =
    elim (or_cases (bytes_eq (codes "minimize") w) (bytes_eq (codes "maximize") w || false) h) [
      | inl least ↦ inl (sym (same_word (codes "minimize") w least))
      | inr rest ↦ elim (or_cases (bytes_eq (codes "maximize") w) false rest) [
        | inl most ↦ inr (sym (same_word (codes "maximize") w most))
        | inr none ↦ absurd (cc none)
      ]
    ]

direction_said : (text : List ℕ) (t : Tree) (at : ℕ) (w : List ℕ) → IsWordAt text t at w → is_among w directions ≡ true → is_direction (form_of text t) ≡ true
direction_said text t at w x h =
    elim (direction_is w h) [
      | inl least ↦ or_left (is_word (codes "minimize") (form_of text t)) (is_word (codes "maximize") (form_of text t)) (word_is text t at (codes "minimize") (subst (IsWordAt text t at) least x))
      | inr most ↦ or_right (is_word (codes "minimize") (form_of text t)) (is_word (codes "maximize") (form_of text t)) (word_is text t at (codes "maximize") (subst (IsWordAt text t at) most x))
    ]

metric_parts_fit : (text : List ℕ) (at : ℕ) (ts : List Tree) → metric_faults at (forms_of text ts) ≡ []
    → (direction : Tree) × (measured : Tree) × (place : ℕ) × (word : List ℕ) × (ts ≡ direction ∷ measured ∷ []) × IsWordAt text direction place word × (is_among word directions ≡ true)
metric_parts_fit text at [] e = absurd (cc e)
metric_parts_fit text at (t ∷ []) e = absurd (too_few ((if is_direction (form_of text t) then [] else shape_at (form_of text t).at ∷ []) ++ []) (shape_at at) e)
metric_parts_fit text at (t ∷ u ∷ []) e =
    let wrong = if is_direction (form_of text t) then [] else shape_at (form_of text t).at ∷ [] in
    let a = nils ((wrong ++ []) ++ []) [] e in
    let b = nils (wrong ++ []) [] a.0 in
    let c = nils wrong [] b.0 in
    elim (cases_Bool (is_direction (form_of text t))) [
      | inl h ↦
          let found = direction_word text t h in
          (t, u, (form_of text t).at, found.0, refl, found.1, found.2)
      | inr n ↦ absurd (cc (rw n at c.0))
    ]
metric_parts_fit text at (t ∷ u ∷ v ∷ vs) e =
    absurd (past_two at (flat_map (λ (f : Form). if is_direction f then [] else shape_at f.at ∷ []) (take 1 (forms_of text (t ∷ u ∷ v ∷ vs)))) (form_of text t) (form_of text u) (form_of text v) (forms_of text vs) e)

metric_fits : (text : List ℕ) (known : List (List ℕ)) (ss : List Tree) → AreSections text known ss → metric_in text ss ≡ [] → HasMetric text ss
metric_fits text known ss sections e parts x =
    let there = section_there text known (codes ":metric") ss parts x sections refl in
    let faultless : metric_faults (place_of text x.section) (forms_of text parts) ≡ [] =
    ap (λ (l : List Tree). metric_faults (place_of text x.section) (forms_of text l)) (sym there.1)
    ∙ sym (ap (λ (o : Option Tree). option_map_or (λ s. metric_faults (place_of text s) (forms_of text (content_of s))) o []) there.0) ∙ e in
    metric_parts_fit text (place_of text x.section) parts faultless

metric_parts_said : (text : List ℕ) (at : ℕ) (t u : Tree) → is_direction (form_of text t) ≡ true → metric_faults at (forms_of text (t ∷ u ∷ [])) ≡ []
metric_parts_said text at t u h = rw h refl

metric_said : (text : List ℕ) (ss : List Tree) → HasMetric text ss → metric_in text ss ≡ []
metric_said text ss metric =
    elim (find_section text (codes ":metric") ss) [
      | inl found ↦
          let s = found.section in
          let has = metric found.parts (found_section text (codes ":metric") ss found) in
          let content = content_begun text s (form_of text s).at (codes ":metric") found.parts found.list in
          ap (λ (o : Option Tree). option_map_or (λ t. metric_faults (place_of text t) (forms_of text (content_of t))) o []) found.named
          ∙ ap (λ (l : List Tree). metric_faults (place_of text s) (forms_of text l)) (content ∙ has.4)
          ∙ metric_parts_said text (place_of text s) has.0 has.1 (direction_said text has.0 has.2 has.3 has.5 has.6)
      | inr none ↦ ap (λ (o : Option Tree). option_map_or (λ t. metric_faults (place_of text t) (forms_of text (content_of t))) o []) none.0
    ]

-- ---- leaves

-- a section of another name has its leaves looked at
whole_section : (text : List ℕ) (s : Tree) → is_headed (codes ":metric") (form_of text s) ≡ false → section_leaves text s ≡ leaves_of text s
whole_section text s other = rw other refl

other_section : (text : List ℕ) (s : Tree) (at : ℕ) (word : List ℕ) (parts : List Tree) → Begins text s at word parts → bytes_eq word (codes ":metric") ≡ false → is_headed (codes ":metric") (form_of text s) ≡ false
other_section text s at word parts begun other = ap (λ (o : Option (List ℕ)). option_map_or (λ w. bytes_eq w (codes ":metric")) o false) (begun_head text s at word parts begun) ∙ other

section_leaves_of : (text : List ℕ) (word : List ℕ) (ss : List Tree) → bytes_eq word (codes ":metric") ≡ false → flat_map (section_leaves text) ss ≡ [] → all_leaves text (content_named text word ss) ≡ []
section_leaves_of text word ss other e =
    content_leaves text word ss (λ front rest s at parts split begun.
    sym (whole_section text s (other_section text s at word parts begun other)) ∙ none_in (section_leaves text) front s rest (sym (ap (flat_map (section_leaves text)) split) ∙ e))

not_metric : (text : List ℕ) (s : Tree) → ((at : ℕ) (parts : List Tree) → Begins text s at (codes ":metric") parts → ⊥) → is_headed (codes ":metric") (form_of text s) ≡ false
not_metric text s none =
    elim (cases_Bool (is_headed (codes ":metric") (form_of text s))) [
      | inl headed ↦
          let found = headed_begins text s (codes ":metric") (headed_word (form_of text s) (codes ":metric") headed) in
          absurd (none (form_of text s).at found.0 found.1)
      | inr other ↦ other
    ]

fit_sections : (text : List ℕ) (ss : List Tree) → flat_map (section_leaves text) ss ≡ [] → HasFitSections text ss
fit_sections text ss e front rest s split none =
    leaves_fit text s (sym (whole_section text s (not_metric text s none)) ∙ none_in (section_leaves text) front s rest (sym (ap (flat_map (section_leaves text)) split) ∙ e))

direction_leaf : (at : ℕ) (w : List ℕ) → is_among w directions ≡ true → leaf_faults at w ≡ []
direction_leaf at w h =
    elim (direction_is w h) [
      | inl least ↦ ap (leaf_faults at) least
      | inr most ↦ ap (leaf_faults at) most
    ]

metric_section_said : (text : List ℕ) (front rest : List Tree) (s : Tree) (ss : List Tree) → ss ≡ front ++ s ∷ rest → HasMetric text ss → is_headed (codes ":metric") (form_of text s) ≡ true → section_leaves text s ≡ []
metric_section_said text front rest s ss split metric headed =
    let found = headed_begins text s (codes ":metric") (headed_word (form_of text s) (codes ":metric") headed) in
    let x = found.1 in
    let has = metric found.0 (record { front = front; rest = rest; section = s; at = (form_of text s).at; split = split; list = x }) in
    let first : leaves_of text x.first ≡ [] = word_leaves text x.first x.first_at (codes ":metric") x.word in
    let second : leaves_of text has.0 ≡ [] = word_leaves text has.0 has.2 has.3 has.5 ∙ direction_leaf has.2 has.3 has.6 in
    let parts : parts_of s ≡ Some (x.first ∷ has.0 ∷ has.1 ∷ []) = parts_listed s (form_of text s).at (x.first ∷ found.0) x.list ∙ ap (λ (l : List Tree). Some (x.first ∷ l)) has.4 in
    rw headed (ap (λ (o : Option (List Tree)). option_map_or (λ ts. all_leaves text (take 2 ts) ++ all_leaves text (drop 3 ts)) o []) parts ∙ rw (first, second) refl)

sections_leaves_said : (text : List ℕ) (ss : List Tree) → HasFitSections text ss → HasMetric text ss → flat_map (section_leaves text) ss ≡ []
sections_leaves_said text ss fit metric = none_from (section_leaves text) ss each
  where
    each : (front rest : List Tree) (s : Tree) → ss ≡ front ++ s ∷ rest → section_leaves text s ≡ []
    each front rest s split =
        elim (cases_Bool (is_headed (codes ":metric") (form_of text s))) [
          | inl headed ↦ metric_section_said text front rest s ss split metric headed
          | inr other ↦
              let none : (at : ℕ) (parts : List Tree) → Begins text s at (codes ":metric") parts → ⊥ = λ at parts begun. cc (sym other ∙ begun_headed text s at (codes ":metric") parts begun) in
              whole_section text s other ∙ leaves_said text s (fit front rest s split none)
        ]

-- the leaves of the frame
frame_name_fits : (text : List ℕ) (t : Tree) (n : Name) (ss : List Tree) (x : IsFrame text (codes "problem") t n ss) → all_leaves text (x.list.first ∷ x.definition ∷ []) ≡ [] → IsFitLeaf n.text
frame_name_fits text t n ss x e =
    let definition = (nils (leaves_of text x.definition) [] (nils (leaves_of text x.list.first) (leaves_of text x.definition ++ []) e).1).0 in
    let inner = nils (leaf_faults x.what.first_at (codes "problem")) (leaves_of text x.named ++ []) (sym (begun_leaves text x.definition x.definition_at (codes "problem") (x.named ∷ []) x.what) ∙ definition) in
    leaf_is_fit n.at n.text (sym (word_leaves text x.named n.at n.text x.name_is.word) ∙ (nils (leaves_of text x.named) [] inner.1).0)

frame_leaves_said : (text : List ℕ) (t : Tree) (n : Name) (ss : List Tree) (x : IsFrame text (codes "problem") t n ss) → IsFitLeaf n.text → all_leaves text (x.list.first ∷ x.definition ∷ []) ≡ []
frame_leaves_said text t n ss x fit =
    let first : leaves_of text x.list.first ≡ [] = word_leaves text x.list.first x.list.first_at (codes "define") x.list.word in
    let name : leaves_of text x.named ≡ [] = word_leaves text x.named n.at n.text x.name_is.word ∙ fit_leaf_said n.at n.text fit in
    let definition : leaves_of text x.definition ≡ [] =
    begun_leaves text x.definition x.definition_at (codes "problem") (x.named ∷ []) x.what ∙ no_more (leaf_faults x.what.first_at (codes "problem")) (leaves_of text x.named ++ []) refl (no_more (leaves_of text x.named) [] name refl) in
    no_more (leaves_of text x.list.first) (leaves_of text x.definition ++ []) first (no_more (leaves_of text x.definition) [] definition refl)

-- ---- what is said without a fault

problem_sections_fit : (text : List ℕ) (t : Tree) (at : ℕ) (name : Parsed Name) (ss : List Tree) → (problem_of_sections text at name ss).faults ≡ [] → flat_map (section_leaves text) ss ≡ []
    → (name.faults ≡ [] → (n : Name) × (name.value ≡ Some n) × (frame : IsFrame text (codes "problem") t n ss) × IsFitLeaf n.text)
    → (p : Problem) × ((problem_of_sections text at name ss).value ≡ Some p) × SpellsProblemTree text t p
problem_sections_fit text t at name ss e leaves framed =
    let sections = word_and_repeat_faults text problem_sections ss in
    let requirements = requirements_faults text ss in
    let no_init = needed_section text at (codes ":init") ss in
    let no_goal = needed_section text at (codes ":goal") ss in
    let domain_name = domain_name_faults text ss in
    let objects = objects_in text (codes ":objects") ss in
    let entries = flat_map (λ (e : Entry). e.faults) (entries_in text ss) in
    let goal = goal_in text ss in
    let metric = metric_in text ss in
    let a = nils (name.faults ++ sections ++ requirements ++ no_init ++ no_goal ++ domain_name ++ objects.faults ++ entries ++ goal.faults) metric e in
    let b = nils (name.faults ++ sections ++ requirements ++ no_init ++ no_goal ++ domain_name ++ objects.faults ++ entries) goal.faults a.0 in
    let c = nils (name.faults ++ sections ++ requirements ++ no_init ++ no_goal ++ domain_name ++ objects.faults) entries b.0 in
    let d = nils (name.faults ++ sections ++ requirements ++ no_init ++ no_goal ++ domain_name) objects.faults c.0 in
    let f = nils (name.faults ++ sections ++ requirements ++ no_init ++ no_goal) domain_name d.0 in
    let g = nils (name.faults ++ sections ++ requirements ++ no_init) no_goal f.0 in
    let h = nils (name.faults ++ sections ++ requirements) no_init g.0 in
    let i = nils (name.faults ++ sections) requirements h.0 in
    let j = nils name.faults sections i.0 in
    let frame = framed j.0 in
    let are_sections = sections_fit text problem_sections ss j.1 in
    let init = needed_there text at (codes ":init") ss h.1 in
    let goal_found = needed_there text at (codes ":goal") ss g.1 in
    let spelled_goal = goal_fits text ss goal_found b.1 (section_leaves_of text (codes ":goal") ss refl leaves) in
    let typed = typed_list_fits text is_name (Some (what.Objects, 1024)) (place_named text (codes ":objects") ss) (content_named text (codes ":objects") ss) d.1 (section_leaves_of text (codes ":objects") ss refl leaves) in
    let content = found_content text (codes ":init") ss init in
    let facts = filter_map (λ (e : Entry). e.fact) (entries_in text ss) in
    let values = filter_map (λ (e : Entry). e.value) (entries_in text ss) in (
      record { name = frame.0; objects = objects.items; facts = facts; values = values; goal = spelled_goal.goal },
      both_values (λ (n : Name) (c : Cond). record { name = n; objects = objects.items; facts = facts; values = values; goal = c }) name.value goal.value frame.0 spelled_goal.goal frame.1 spelled_goal.value,
      record {
        sections = ss;
        frame = frame.2;
        are_sections = are_sections;
        requirements = content_named text (codes ":requirements") ss;
        requirements_there = content_fits text (codes ":requirements") ss;
        keys = keys_fit text (content_named text (codes ":requirements") ss) i.1;
        domain_name = name_fits_in text problem_sections ss are_sections f.1;
        objects = content_named text (codes ":objects") ss;
        objects_there = content_fits text (codes ":objects") ss;
        objects_are = typed.0;
        few_objects = typed.1;
        entries = content_named text (codes ":init") ss;
        entries_there = subst (HasSection text (codes ":init") ss) (sym content) (found_section text (codes ":init") ss init);
        entries_are = entries_fit text (content_named text (codes ":init") ss) c.1 (section_leaves_of text (codes ":init") ss refl leaves);
        goal = spelled_goal.tree;
        goal_there = spelled_goal.there;
        goal_is = spelled_goal.spelled;
        metric = metric_fits text problem_sections ss are_sections a.1;
        name_fits = frame.3;
        leaves = fit_sections text ss leaves;
      },
    )

problem_tree_fits : (text : List ℕ) (t : Tree) → (problem_tree text t).faults ≡ [] → problem_leaves text t ≡ [] → (p : Problem) × ((problem_tree text t).value ≡ Some p) × SpellsProblemTree text t p
problem_tree_fits text t e leaves = by_parts (parts_of t) refl e leaves
  where
    by_parts : (o : Option (List Tree)) → parts_of t ≡ o → (option_map_or (problem_parts text (place_of text t)) o (misfit Problem (place_of text t))).faults ≡ []
        → option_map_or (λ ts. all_leaves text (take 2 ts) ++ flat_map (section_leaves text) (sections_of ts)) o (leaves_of text t) ≡ []
        → (p : Problem) × ((option_map_or (problem_parts text (place_of text t)) o (misfit Problem (place_of text t))).value ≡ Some p) × SpellsProblemTree text t p
    by_parts None is k fit = absurd (cc k)
    by_parts (Some []) is k fit = absurd (cc k)
    by_parts (Some (u ∷ us)) is k fit =
        let place = place_of text t in
        let listed = parts_there text t (u ∷ us) is in
        let parts = nils (all_leaves text (take 2 (u ∷ us))) (flat_map (section_leaves text) (sections_of (u ∷ us))) fit in
        let framed : (frame_of text (codes "problem") place (u ∷ us)).faults ≡ [] → (n : Name) × ((frame_of text (codes "problem") place (u ∷ us)).value ≡ Some n)
        × (frame : IsFrame text (codes "problem") t n (sections_of (u ∷ us))) × IsFitLeaf n.text =
        λ named.
        let found = frame_fits text (codes "problem") t (form_of text t).at place (u ∷ us) listed named in
        let same = same_Some (found.2.list.first ∷ found.2.definition ∷ sections_of (u ∷ us)) (u ∷ us) (sym (frame_parts text (codes "problem") t found.0 (sections_of (u ∷ us)) found.2) ∙ is) in
        (found.0, found.1, found.2, frame_name_fits text t found.0 (sections_of (u ∷ us)) found.2 (ap (λ (l : List Tree). all_leaves text (take 2 l)) same ∙ parts.0)) in
        problem_sections_fit text t place (frame_of text (codes "problem") place (u ∷ us)) (sections_of (u ∷ us)) k parts.1 framed

pub problem_fits : (text : List ℕ) (trees : List Tree) (p : Problem) → SaysWithoutFault Problem text trees (problem_in text trees) p → SpellsProblem text p
problem_fits text [] p x = absurd (cc x.no_fault)
problem_fits text (t ∷ ts) p x =
    let a = nils (problem_leaves text t ++ all_leaves text ts ++ further_trees text (t ∷ ts)) (problem_tree text t).faults x.no_fault in
    let b = nils (problem_leaves text t ++ all_leaves text ts) (further_trees text (t ∷ ts)) a.0 in
    let found = problem_tree_fits text t a.1 (nils (problem_leaves text t) (all_leaves text ts) b.0).0 in
    let alone : ts ≡ [] = none_further ts b.1 in
    record {
      tree = t;
      one_tree = subst (λ (l : List Tree). AreTrees text (t ∷ l)) alone x.trees_of_text;
      spelled = subst (SpellsProblemTree text t) (same_Some found.0 p (sym found.1 ∙ x.value_is)) found.2;
    }
  where
    none_further : (us : List Tree) → further_trees text (t ∷ us) ≡ [] → us ≡ []
    none_further [] k = refl
    none_further (u ∷ us) k = absurd (cc k)

-- ---- what is spelled

problem_tree_said : (text : List ℕ) (t : Tree) (p : Problem) → SpellsProblemTree text t p → Says (problem_tree text t) p × (problem_leaves text t ≡ [])
problem_tree_said text t p x =
    let ss = x.sections in
    let at = place_of text t in
    let name = frame_of text (codes "problem") at (x.frame.list.first ∷ x.frame.definition ∷ ss) in
    let frame = frame_said text (codes "problem") t p.name ss x.frame at in
    let sections = sections_said text problem_sections ss refl x.are_sections in
    let requirements : requirements_faults text ss ≡ [] =
    ap (λ (l : List Tree). flat_map requirement_faults (forms_of text l)) (content_said text problem_sections (codes ":requirements") ss x.requirements x.requirements_there x.are_sections refl)
    ∙ keys_said text x.requirements x.keys in
    let init = section_there text problem_sections (codes ":init") ss x.entries x.entries_there x.are_sections refl in
    let goal_section = section_there text problem_sections (codes ":goal") ss (x.goal ∷ []) x.goal_there x.are_sections refl in
    let no_init = needed_said text at (codes ":init") ss x.entries_there.section init.0 in
    let no_goal = needed_said text at (codes ":goal") ss x.goal_there.section goal_section.0 in
    let domain_name = name_said_in text ss x.domain_name in
    let objects : objects_in text (codes ":objects") ss ≡ record { items = p.objects; faults = [] } =
    ap (λ (l : List Tree). typed_list objects_kind (place_named text (codes ":objects") ss) (forms_of text l)) (content_said text problem_sections (codes ":objects") ss x.objects x.objects_there x.are_sections refl)
    ∙ typed_list_said text is_name (Some (what.Objects, 1024)) (place_named text (codes ":objects") ss) refl x.objects p.objects x.objects_are x.few_objects in
    let content : content_named text (codes ":init") ss ≡ x.entries = ap (λ (o : Option Tree). option_map_or content_of o []) init.0 ∙ init.1 in
    let listed : entries_in text ss ≡ map (entry_of text) x.entries = ap (map (entry_of text)) content in
    let entries = entries_said text x.entries p.facts p.values x.entries_are in
    let facts = ap (filter_map (λ (e : Entry). e.fact)) listed ∙ entries.0 in
    let values = ap (filter_map (λ (e : Entry). e.value)) listed ∙ entries.1 in
    let faultless = ap (flat_map (λ (e : Entry). e.faults)) listed ∙ entries.2 in
    let goal = goal_said text ss x.goal_there.section x.goal p.goal goal_section.0 goal_section.1 x.goal_is in
    let metric = metric_said text ss x.metric in
    let parts = frame_parts text (codes "problem") t p.name ss x.frame in (
      subst (λ (o : Option (List Tree)). Says (option_map_or (problem_parts text at) o (misfit Problem at)) p) (sym parts)
          (all_said name (objects_in text (codes ":objects") ss) (entries_in text ss) (goal_in text ss) (word_and_repeat_faults text problem_sections ss) (requirements_faults text ss) (needed_section text at (codes ":init") ss)
          (needed_section text at (codes ":goal") ss) (domain_name_faults text ss) (metric_in text ss) frame sections requirements no_init no_goal domain_name objects facts values faultless goal metric),
      ap (λ (o : Option (List Tree)). option_map_or (λ ts. all_leaves text (take 2 ts) ++ flat_map (section_leaves text) (sections_of ts)) o (leaves_of text t)) parts
          ∙ no_more (all_leaves text (x.frame.list.first ∷ x.frame.definition ∷ [])) (flat_map (section_leaves text) ss)
          (frame_leaves_said text t p.name ss x.frame x.name_fits) (sections_leaves_said text ss x.leaves x.metric),
    )
  where
    all_said : (name : Parsed Name) (objects : Listed Typed) (entries : List Entry) (goal : Parsed Cond) (sections requirements no_init no_goal domain_name metric : List Fault)
        → Says name p.name → sections ≡ [] → requirements ≡ [] → no_init ≡ [] → no_goal ≡ [] → domain_name ≡ [] → objects ≡ record { items = p.objects; faults = [] }
        → filter_map (λ (e : Entry). e.fact) entries ≡ p.facts → filter_map (λ (e : Entry). e.value) entries ≡ p.values → flat_map (λ (e : Entry). e.faults) entries ≡ [] → Says goal p.goal → metric ≡ []
        → (both (λ (n : Name) (c : Cond). record { name = n; objects = objects.items; facts = filter_map (λ (e : Entry). e.fact) entries; values = filter_map (λ (e : Entry). e.value) entries; goal = c }) name.value goal.value ≡ Some p)
        × (name.faults ++ sections ++ requirements ++ no_init ++ no_goal ++ domain_name ++ objects.faults ++ flat_map (λ (e : Entry). e.faults) entries ++ goal.faults ++ metric ≡ [])
    all_said name objects entries goal sections requirements no_init no_goal domain_name metric a b c d e f g h i j k l =
        (rw (a.0, g, h, i, k.0) refl, rw (a.1, b, c, d, e, f, g, j, k.1, l) refl)

pub problem_said : (text : List ℕ) (p : Problem) → SpellsProblem text p → (trees : List Tree) × SaysWithoutFault Problem text trees (problem_in text trees) p
problem_said text p x =
    let said = problem_tree_said text x.tree p x.spelled in (
      x.tree ∷ [],
      record {
        trees_of_text = x.one_tree;
        no_fault = no_more (problem_leaves text x.tree ++ [] ++ []) (problem_tree text x.tree).faults (no_more (problem_leaves text x.tree ++ []) [] (no_more (problem_leaves text x.tree) [] said.1 refl) refl) said.0.1;
        value_is = said.0.0;
      },
    )

-- a text spells at most one problem
pub one_problem : (text : List ℕ) (first second : Problem) → SpellsProblem text first → SpellsProblem text second → first ≡ second
one_problem text first second a b =
    let one = problem_said text first a in
    let other = problem_said text second b in
    let same = one_list text one.0 other.0 one.1.trees_of_text other.1.trees_of_text in
    same_Some first second (sym one.1.value_is ∙ ap (λ (ts : List Tree). (problem_in text ts).value) same ∙ other.1.value_is)

-- trees without a fault say a problem, which the text spells
pub faultless_problem : (text : List ℕ) (trees : List Tree) → AreTrees text trees → (problem_in text trees).faults ≡ [] → (p : Problem) × SpellsProblem text p
faultless_problem text [] are e = absurd (cc e)
faultless_problem text (t ∷ ts) are e =
    let a = nils (problem_leaves text t ++ all_leaves text ts ++ further_trees text (t ∷ ts)) (problem_tree text t).faults e in
    let b = nils (problem_leaves text t ++ all_leaves text ts) (further_trees text (t ∷ ts)) a.0 in
    let found = problem_tree_fits text t a.1 (nils (problem_leaves text t) (all_leaves text ts) b.0).0 in
    (found.0, problem_fits text (t ∷ ts) found.0 (record { trees_of_text = are; no_fault = e; value_is = found.1 }))
