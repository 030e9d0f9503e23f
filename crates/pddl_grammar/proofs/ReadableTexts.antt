-- Domains and problems that texts of at most 2^30 bytes spell are readable.
use Rattle.std.proofs.Common.{◌≡◌, ℕ, suc, ◌+◌, ◌-◌, ◌≤◌, ◌^◌, List, [], ◌∷◌, ◌++◌, codes, length, Some, refl, sym, ap, subst, ◌∙◌, length-append, arith}
use Rattle.std.proofs.lemmas.List.Concat.{flat_map-append}
use Rattle.std.proofs.lemmas.Option.{same_Some}
use Rattle.num_ends.specs.Decimal.{Decimal}
use Rattle.sexp_text.specs.declared.marks.Mark.TheVariants as marks
use Rattle.sexp_text.specs.declared.marks.Span.{Span}
use Rattle.sexp_text.specs.declared.marks.Marked.{Marked}
use Rattle.sexp_text.specs.declared.trees.Tree.{Tree}
use Rattle.sexp_text.specs.declared.trees.Tree.TheVariants as trees
use Rattle.sexp_text.specs.Trees.{AreTrees, marked, marks_of, marks_of_all}
use Rattle.sexp_text.proofs.Counts.{few_marks}
use Rattle.sexp_text.proofs.TreeMarks.{marks_of-Leaf, marks_of-List}
use Rattle.pddl_terms.specs.declared.names.Atom.{Atom}
use Rattle.pddl_terms.specs.declared.names.Sig.{Sig}
use Rattle.pddl_terms.specs.declared.actions.Schema.{Schema}
use Rattle.pddl_terms.specs.declared.files.Domain.{Domain}
use Rattle.pddl_terms.specs.declared.files.Problem.{Problem}
use Rattle.pddl_terms.specs.Readable.{IsReadableDomain, IsReadableProblem}
use Rattle.pddl_trees.specs.Trees.{form_of}
use Rattle.pddl_trees.specs.Leaves.{all_leaves, leaves_of}
use Rattle.pddl_grammar.specs.Trees.{Begins, Each, IsListAt}
use Rattle.pddl_grammar.specs.Sections.{HasContent, HasSection}
use Rattle.pddl_grammar.specs.Declarations.{SpellsFunctions}
use Rattle.pddl_grammar.specs.Actions.{HasActions}
use Rattle.pddl_grammar.specs.InitialState.{SpellsEntries}
use Rattle.pddl_grammar.specs.Domains.{SpellsDomain, SpellsDomainTree}
use Rattle.pddl_grammar.specs.Problems.{HasFitSections, SpellsProblem, SpellsProblemTree}
use Rattle.pddl_grammar.proofs.Spelled.{Shape, begun_head, shape_of}
use Rattle.pddl_grammar.proofs.SpelledMarks.{leaves_said}
use Rattle.pddl_grammar.proofs.SpelledSections.{none_in}
use Rattle.pddl_grammar.proofs.ReadableNames.{begun_clean, first_clean, fit_name, name_readable, rest_clean}
use Rattle.pddl_grammar.proofs.ReadableConditions.{condition_low, condition_readable}
use Rattle.pddl_grammar.proofs.ReadableDeclarations.{actions_readable, entries_readable, functions_readable, items_readable, predicates_readable, types_readable}

-- ---- how many trees there are

one_mark : (t : Tree) → Shape t → 1 ≤ length (marks_of t)
one_mark t (Shape.a_leaf span) =
    let e = ap length (marks_of-Leaf span) in
    omega arith
one_mark t (Shape.a_list span ts) =
    let e = ap length (marks_of-List span ts) in
    omega arith

many_marks : (ts : List Tree) → length ts ≤ length (marks_of_all ts)
many_marks [] = omega arith
many_marks (t ∷ ts) =
    let here = one_mark t (shape_of t) in
    let later = many_marks ts in
    let e = length-append (marks_of t) (marks_of_all ts) in
    omega arith

-- the marks of a list are those of its parts and two brackets
inner_marks : (t : Tree) (at : ℕ) (ts : List Tree) → IsListAt t at ts → length (marks_of_all ts) ≤ length (marks_of t)
inner_marks t at ts x =
    let last : Marked = marked marks.Closing (x.span.to - 1) x.span.to in
    let e = ap (λ (u : Tree). length (marks_of u)) x.is_list ∙ ap length (marks_of-List x.span ts) in
    let f = length-append (marks_of_all ts) (last ∷ []) in
    omega arith

behind_marks : (t : Tree) (ts : List Tree) → length (marks_of_all ts) ≤ length (marks_of_all (t ∷ ts))
behind_marks t ts =
    let e = length-append (marks_of t) (marks_of_all ts) in
    omega arith

within_marks : (front rest : List Tree) (t : Tree) → length (marks_of t) ≤ length (marks_of_all (front ++ t ∷ rest))
within_marks front rest t =
    let e = ap length (flat_map-append marks_of front (t ∷ rest)) ∙ length-append (marks_of_all front) (marks_of_all (t ∷ rest)) in
    let f = length-append (marks_of t) (marks_of_all rest) in
    omega arith

-- what stands in a section has no more trees than the sections have leaves and brackets
begun_few : (text : List ℕ) (t : Tree) (at : ℕ) (word : List ℕ) (parts : List Tree) → Begins text t at word parts → length parts ≤ length (marks_of t)
begun_few text t at word parts x =
    let inner = inner_marks t at (x.first ∷ parts) x.list in
    let behind = behind_marks x.first parts in
    let many = many_marks parts in
    omega arith

content_few : (text : List ℕ) (word : List ℕ) (ss parts : List Tree) → HasContent text word ss parts → length parts ≤ length (marks_of_all ss)
content_few text word ss parts (HasContent.absent us none) = omega arith
content_few text word ss parts (HasContent.there front rest s at us x) =
    let few = begun_few text s at word us x in
    let within = within_marks front rest s in
    omega arith

section_few : (text : List ℕ) (word : List ℕ) (ss parts : List Tree) → HasSection text word ss parts → length parts ≤ length (marks_of_all ss)
section_few text word ss parts x =
    let few = begun_few text x.section x.at word parts x.list in
    let within = within_marks x.front x.rest x.section in
    let same = ap (λ (us : List Tree). length (marks_of_all us)) x.split in
    omega arith

-- the sections behind a frame are within the text
sections_few : (text : List ℕ) (t : Tree) (at : ℕ) (word : List ℕ) (definition : Tree) (ss : List Tree) → Begins text t at word (definition ∷ ss) → AreTrees text (t ∷ [])
    → length (marks_of_all ss) ≤ length text
sections_few text t at word definition ss x are =
    let inner = inner_marks t at (x.first ∷ definition ∷ ss) x.list in
    let first = behind_marks x.first (definition ∷ ss) in
    let second = behind_marks definition ss in
    let whole = few_marks text (t ∷ []) are in
    let e = length-append (marks_of t) [] in
    omega arith

same_count : {A B : Type 0} (R : A → B → Type 0) (xs : List A) (ys : List B) → Each R xs ys → length ys ≡ length xs
same_count R xs ys Each.none = refl
same_count R xs ys (Each.next x y us vs here later) = ap suc (same_count R us vs later)

functions_few : (text : List ℕ) (ts : List Tree) (sigs : List Sig) → SpellsFunctions text ts sigs → length sigs ≤ length ts
functions_few text ts sigs SpellsFunctions.none = omega arith
functions_few text ts sigs (SpellsFunctions.plain t us s ss here later) =
    let rest = functions_few text us ss later in
    omega arith
functions_few text ts sigs (SpellsFunctions.numeric t dash k at kind_at us s ss here a_dash type later) =
    let rest = functions_few text us ss later in
    omega arith

actions_few : (text : List ℕ) (ss : List Tree) (schemas : List Schema) → HasActions text ss schemas → length schemas ≤ length ss
actions_few text ss schemas HasActions.none = omega arith
actions_few text ss schemas (HasActions.action t ts s rest here later) =
    let few = actions_few text ts rest later in
    omega arith
actions_few text ss schemas (HasActions.other t ts rest none later) =
    let few = actions_few text ts rest later in
    omega arith

entries_few : (text : List ℕ) (ts : List Tree) (facts : List Atom) (values : List (Atom × Decimal)) → SpellsEntries text ts facts values
    → (length facts ≤ length ts) × (length values ≤ length ts)
entries_few text ts facts values SpellsEntries.none = (omega arith, omega arith)
entries_few text ts facts values (SpellsEntries.fact t us a fs vs x later) =
    let rest = entries_few text us fs vs later in
    let f = rest.0 in
    let v = rest.1 in
    (omega arith, omega arith)
entries_few text ts facts values (SpellsEntries.value t us w fs vs x later) =
    let rest = entries_few text us fs vs later in
    let f = rest.0 in
    let v = rest.1 in
    (omega arith, omega arith)
entries_few text ts facts values (SpellsEntries.negative t u at us a fs vs x inner later) =
    let rest = entries_few text us fs vs later in
    let f = rest.0 in
    let v = rest.1 in
    (omega arith, omega arith)

-- ---- domains

content_clean : (text : List ℕ) (word : List ℕ) (ss parts : List Tree) → HasContent text word ss parts → all_leaves text ss ≡ [] → all_leaves text parts ≡ []
content_clean text word ss parts (HasContent.absent us none) clean = refl
content_clean text word ss parts (HasContent.there front rest s at us x) clean = begun_clean text s at word us x (none_in (leaves_of text) front s rest clean)

domain_tree_readable : (text : List ℕ) (t : Tree) (d : Domain) → length text ≤ 2 ^ 30 → AreTrees text (t ∷ []) → SpellsDomainTree text t d → IsReadableDomain d
domain_tree_readable text t d small are x =
    let ss = x.sections in
    let frame = x.frame in
    let parts = begun_clean text t frame.at (codes "define") (frame.definition ∷ ss) frame.list (leaves_said text t x.leaves) in
    let clean = rest_clean text frame.definition ss parts in
    let named = begun_clean text frame.definition frame.definition_at (codes "domain") (frame.named ∷ []) frame.what (first_clean text frame.definition ss parts) in
    let few = sections_few text t frame.at (codes "define") frame.definition ss frame.list are in
    let few_predicates = content_few text (codes ":predicates") ss x.predicates x.predicates_there in
    let same_predicates = same_count _ x.predicates d.predicates x.predicates_are in
    let few_functions = content_few text (codes ":functions") ss x.functions x.functions_there in
    let fewer_functions = functions_few text x.functions d.functions x.functions_are in
    let few_sections = many_marks ss in
    let few_actions = actions_few text ss d.schemas x.schemas in
    record {
      name = name_readable text frame.named d.name frame.name_is (first_clean text frame.named [] named);
      types = types_readable text x.types d.types x.types_are (content_clean text (codes ":types") ss x.types x.types_there clean);
      constants = items_readable text x.constants d.constants x.constants_are (content_clean text (codes ":constants") ss x.constants x.constants_there clean);
      few_constants = x.few_constants;
      predicates = predicates_readable text x.predicates d.predicates x.predicates_are (content_clean text (codes ":predicates") ss x.predicates x.predicates_there clean);
      few_predicates = omega arith;
      functions = functions_readable text x.functions d.functions x.functions_are (content_clean text (codes ":functions") ss x.functions x.functions_there clean);
      few_functions = omega arith;
      schemas = actions_readable text ss d.schemas x.schemas clean;
      few_schemas = omega arith;
    }

pub domain_readable : (text : List ℕ) (d : Domain) → length text ≤ 2 ^ 30 → SpellsDomain text d → IsReadableDomain d
domain_readable text d small x = domain_tree_readable text x.tree d small x.one_tree x.spelled

-- ---- problems

-- a section of another word is no metric
no_metric : (text : List ℕ) (s : Tree) (at : ℕ) (word : List ℕ) (parts : List Tree) → Begins text s at word parts → (word ≡ codes ":metric" → ⊥)
    → (place : ℕ) (others : List Tree) → Begins text s place (codes ":metric") others → ⊥
no_metric text s at word parts x other place others y =
    other (same_Some word (codes ":metric") (sym (begun_head text s at word parts x) ∙ begun_head text s place (codes ":metric") others y))

fit_section_clean : (text : List ℕ) (word : List ℕ) (front rest : List Tree) (s : Tree) (at : ℕ) (ss parts : List Tree) → ss ≡ front ++ s ∷ rest → Begins text s at word parts
    → HasFitSections text ss → (word ≡ codes ":metric" → ⊥) → all_leaves text parts ≡ []
fit_section_clean text word front rest s at ss parts split x fit other =
    begun_clean text s at word parts x (leaves_said text s (fit front rest s split (no_metric text s at word parts x other)))

fit_content_clean : (text : List ℕ) (word : List ℕ) (ss parts : List Tree) → HasContent text word ss parts → HasFitSections text ss → (word ≡ codes ":metric" → ⊥)
    → all_leaves text parts ≡ []
fit_content_clean text word ss parts (HasContent.absent us none) fit other = refl
fit_content_clean text word ss parts (HasContent.there front rest s at us x) fit other = fit_section_clean text word front rest s at (front ++ s ∷ rest) us refl x fit other

problem_tree_readable : (text : List ℕ) (t : Tree) (p : Problem) → length text ≤ 2 ^ 30 → AreTrees text (t ∷ []) → SpellsProblemTree text t p → IsReadableProblem p
problem_tree_readable text t p small are x =
    let ss = x.sections in
    let frame = x.frame in
    let few = sections_few text t frame.at (codes "define") frame.definition ss frame.list are in
    let few_entries = section_few text (codes ":init") ss x.entries x.entries_there in
    let fewer = entries_few text x.entries p.facts p.values x.entries_are in
    let f = fewer.0 in
    let v = fewer.1 in
    let init = x.entries_there in
    let goal = x.goal_there in
    let objects = fit_content_clean text (codes ":objects") ss x.objects x.objects_there x.leaves (λ e. cc e) in
    let entries = fit_section_clean text (codes ":init") init.front init.rest init.section init.at ss x.entries init.split init.list x.leaves (λ e. cc e) in
    let goals = fit_section_clean text (codes ":goal") goal.front goal.rest goal.section goal.at ss (x.goal ∷ []) goal.split goal.list x.leaves (λ e. cc e) in
    let said = entries_readable text x.entries p.facts p.values x.entries_are entries in
    record {
      name = fit_name p.name.text x.name_fits frame.name_is.a_name;
      objects = items_readable text x.objects p.objects x.objects_are objects;
      few_objects = x.few_objects;
      facts = said.0;
      few_facts = omega arith;
      values = said.1;
      few_values = omega arith;
      goal = condition_readable text x.goal p.goal x.goal_is (first_clean text x.goal [] goals);
      low_goal = condition_low text x.goal p.goal x.goal_is;
    }

pub problem_readable : (text : List ℕ) (p : Problem) → length text ≤ 2 ^ 30 → SpellsProblem text p → IsReadableProblem p
problem_readable text p small x = problem_tree_readable text x.tree p small x.one_tree x.spelled
