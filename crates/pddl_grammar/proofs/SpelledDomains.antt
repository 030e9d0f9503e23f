-- Domains: what a text says without a fault is what it spells.
use Rattle.std.proofs.Common.{◌≡◌, ◌≢◌, ℕ, List, [], ◌∷◌, ◌++◌, Option, Some, None, refl, sym, ap, ap₂, subst, ◌∙◌}
use Rattle.std.specs.Prelude.{codes, flat_map, option_map}
use Rattle.std.specs.Option.{option_map_or}
use Rattle.std.proofs.lemmas.Option.{same_Some}
use Rattle.num_ends.specs.Names.{is_name}
use Rattle.sexp_text.specs.declared.trees.Tree.{Tree}
use Rattle.sexp_text.specs.Trees.{AreTrees}
use Rattle.sexp_text.proofs.OneAnswer.{one_list}
use Rattle.pddl_terms.specs.declared.names.Name.{Name}
use Rattle.pddl_terms.specs.declared.names.Typed.{Typed}
use Rattle.pddl_terms.specs.declared.names.Sig.{Sig}
use Rattle.pddl_terms.specs.declared.actions.Schema.{Schema}
use Rattle.pddl_terms.specs.declared.files.Domain.{Domain}
use Rattle.pddl_terms.specs.declared.limits.What.TheVariants as what
use Rattle.pddl_trees.specs.declared.faults.Fault.{Fault}
use Rattle.pddl_trees.specs.Forms.{Parsed, misfit}
use Rattle.pddl_trees.specs.Trees.{form_of, forms_of, parts_of, place_of}
use Rattle.pddl_trees.specs.TypedLists.{Listed, typed_list, objects_kind}
use Rattle.pddl_trees.specs.Declarations.{functions_list, predicates_list, requirement_faults, types_list}
use Rattle.pddl_trees.specs.Sections.{content_named, domain_sections, place_named, objects_in, requirements_faults, sections_of, word_and_repeat_faults}
use Rattle.pddl_trees.specs.Texts.{SaysWithoutFault}
use Rattle.pddl_trees.specs.Leaves.{all_leaves, leaves_of}
use Rattle.pddl_trees.specs.Domains.{domain_in, domain_of_sections, domain_tree, functions_in, predicates_in, types_in}
use Rattle.pddl_trees.specs.Frames.{frame_of, further_trees}
use Rattle.pddl_trees.specs.Actions.{schemas_in}
use Rattle.pddl_grammar.specs.Sections.{IsFrame}
use Rattle.pddl_grammar.specs.Domains.{SpellsDomain, SpellsDomainTree}
use Rattle.pddl_grammar.proofs.Spelled.{Says, nils, no_more, parts_there}
use Rattle.pddl_grammar.proofs.SpelledLeaves.{list_leaves}
use Rattle.pddl_grammar.proofs.SpelledMarks.{leaves_fit, leaves_said}
use Rattle.pddl_grammar.proofs.SpelledLists.{typed_list_fits, typed_list_said}
use Rattle.pddl_grammar.proofs.SpelledDeclarations.{functions_list_fits, functions_list_said, predicates_fit, predicates_said, types_fit, types_said}
use Rattle.pddl_grammar.proofs.SpelledSections.{actions_fit, actions_said, content_fits, content_leaves, content_said, keys_fit, keys_said, leaves_of_each, sections_fit, sections_said}
use Rattle.pddl_grammar.proofs.SpelledFrames.{frame_fits, frame_parts, frame_said}

-- ---- what is said without a fault

domain_sections_fit : (text : List ℕ) (t : Tree) (name : Parsed Name) (ss : List Tree) → (domain_of_sections text name ss).faults ≡ [] → leaves_of text t ≡ [] → all_leaves text ss ≡ []
    → (name.faults ≡ [] → (n : Name) × (name.value ≡ Some n) × IsFrame text (codes "domain") t n ss)
    → (d : Domain) × ((domain_of_sections text name ss).value ≡ Some d) × SpellsDomainTree text t d
domain_sections_fit text t name ss e whole leaves framed =
    let sections = word_and_repeat_faults text domain_sections ss in
    let requirements = requirements_faults text ss in
    let types = types_in text ss in
    let constants = objects_in text (codes ":constants") ss in
    let predicates = predicates_in text ss in
    let functions = functions_in text ss in
    let schemas = schemas_in text ss in
    let a = nils (name.faults ++ sections ++ requirements ++ types.faults ++ constants.faults ++ predicates.faults ++ functions.faults) schemas.faults e in
    let b = nils (name.faults ++ sections ++ requirements ++ types.faults ++ constants.faults ++ predicates.faults) functions.faults a.0 in
    let c = nils (name.faults ++ sections ++ requirements ++ types.faults ++ constants.faults) predicates.faults b.0 in
    let d = nils (name.faults ++ sections ++ requirements ++ types.faults) constants.faults c.0 in
    let f = nils (name.faults ++ sections ++ requirements) types.faults d.0 in
    let g = nils (name.faults ++ sections) requirements f.0 in
    let h = nils name.faults sections g.0 in
    let frame = framed h.0 in
    let inside = λ (word : List ℕ). content_leaves text word ss (leaves_of_each text word ss leaves) in
    let objects = typed_list_fits text is_name (Some (what.Objects, 1024)) (place_named text (codes ":constants") ss) (content_named text (codes ":constants") ss) d.1 (inside (codes ":constants")) in (
      record { name = frame.0; types = types.items; constants = constants.items; predicates = predicates.items; functions = functions.items; schemas = schemas.items },
      ap (option_map (λ (n : Name). record { name = n; types = types.items; constants = constants.items; predicates = predicates.items; functions = functions.items; schemas = schemas.items })) frame.1,
      record {
        sections = ss;
        frame = frame.2;
        are_sections = sections_fit text domain_sections ss h.1;
        requirements = content_named text (codes ":requirements") ss;
        requirements_there = content_fits text (codes ":requirements") ss;
        keys = keys_fit text (content_named text (codes ":requirements") ss) g.1;
        types = content_named text (codes ":types") ss;
        types_there = content_fits text (codes ":types") ss;
        types_are = types_fit text (place_named text (codes ":types") ss) (content_named text (codes ":types") ss) f.1 (inside (codes ":types"));
        constants = content_named text (codes ":constants") ss;
        constants_there = content_fits text (codes ":constants") ss;
        constants_are = objects.0;
        few_constants = objects.1;
        predicates = content_named text (codes ":predicates") ss;
        predicates_there = content_fits text (codes ":predicates") ss;
        predicates_are = predicates_fit text (content_named text (codes ":predicates") ss) c.1 (inside (codes ":predicates"));
        functions = content_named text (codes ":functions") ss;
        functions_there = content_fits text (codes ":functions") ss;
        functions_are = functions_list_fits text (place_named text (codes ":functions") ss) (content_named text (codes ":functions") ss) b.1 (inside (codes ":functions"));
        schemas = actions_fit text ss a.1 leaves;
        leaves = leaves_fit text t whole;
      },
    )

behind_two : (text : List ℕ) (ts : List Tree) → all_leaves text ts ≡ [] → all_leaves text (sections_of ts) ≡ []
behind_two text [] e = refl
behind_two text (t ∷ []) e = refl
behind_two text (t ∷ u ∷ us) e = (nils (leaves_of text u) (all_leaves text us) (nils (leaves_of text t) (leaves_of text u ++ all_leaves text us) e).1).1

domain_tree_fits : (text : List ℕ) (t : Tree) → (domain_tree text t).faults ≡ [] → leaves_of text t ≡ [] → (d : Domain) × ((domain_tree text t).value ≡ Some d) × SpellsDomainTree text t d
domain_tree_fits text t e leaves = by_parts (parts_of t) refl e
  where
    by_parts : (o : Option (List Tree)) → parts_of t ≡ o
        → (option_map_or (λ ts. domain_of_sections text (frame_of text (codes "domain") (place_of text t) ts) (sections_of ts)) o (misfit Domain (place_of text t))).faults ≡ []
        → (d : Domain) × ((option_map_or (λ ts. domain_of_sections text (frame_of text (codes "domain") (place_of text t) ts) (sections_of ts)) o (misfit Domain (place_of text t))).value ≡ Some d)
        × SpellsDomainTree text t d
    by_parts None is k = absurd (cc k)
    by_parts (Some ts) is k =
        let listed = parts_there text t ts is in
        let inner = sym (list_leaves text t (form_of text t).at ts listed) ∙ leaves in
        domain_sections_fit text t (frame_of text (codes "domain") (place_of text t) ts) (sections_of ts) k leaves (behind_two text ts inner)
        (λ named. frame_fits text (codes "domain") t (form_of text t).at (place_of text t) ts listed named)

pub domain_fits : (text : List ℕ) (trees : List Tree) (d : Domain) → SaysWithoutFault Domain text trees (domain_in text trees) d → SpellsDomain text d
domain_fits text [] d x = absurd (cc x.no_fault)
domain_fits text (t ∷ ts) d x =
    let outer = nils (all_leaves text (t ∷ ts) ++ further_trees text (t ∷ ts)) (domain_tree text t).faults x.no_fault in
    let inner = nils (all_leaves text (t ∷ ts)) (further_trees text (t ∷ ts)) outer.0 in
    let leaves = nils (leaves_of text t) (all_leaves text ts) inner.0 in
    let found = domain_tree_fits text t outer.1 leaves.0 in
    let alone : ts ≡ [] = none_further ts inner.1 in
    record {
      tree = t;
      one_tree = subst (λ (l : List Tree). AreTrees text (t ∷ l)) alone x.trees_of_text;
      spelled = subst (SpellsDomainTree text t) (same_Some found.0 d (sym found.1 ∙ x.value_is)) found.2;
    }
  where
    none_further : (us : List Tree) → further_trees text (t ∷ us) ≡ [] → us ≡ []
    none_further [] k = refl
    none_further (u ∷ us) k = absurd (cc k)

-- ---- what is spelled

domain_tree_said : (text : List ℕ) (t : Tree) (d : Domain) → SpellsDomainTree text t d → Says (domain_tree text t) d
domain_tree_said text t d x =
    let ss = x.sections in
    let name = frame_of text (codes "domain") (place_of text t) (x.frame.list.first ∷ x.frame.definition ∷ ss) in
    let frame = frame_said text (codes "domain") t d.name ss x.frame (place_of text t) in
    let sections = sections_said text domain_sections ss refl x.are_sections in
    let requirements : requirements_faults text ss ≡ [] =
    ap (λ (l : List Tree). flat_map requirement_faults (forms_of text l)) (content_said text domain_sections (codes ":requirements") ss x.requirements x.requirements_there x.are_sections refl)
    ∙ keys_said text x.requirements x.keys in
    let types : types_in text ss ≡ record { items = d.types; faults = [] } =
    ap (λ (l : List Tree). types_list (place_named text (codes ":types") ss) (forms_of text l)) (content_said text domain_sections (codes ":types") ss x.types x.types_there x.are_sections refl)
    ∙ types_said text (place_named text (codes ":types") ss) x.types d.types x.types_are in
    let constants : objects_in text (codes ":constants") ss ≡ record { items = d.constants; faults = [] } =
    ap (λ (l : List Tree). typed_list objects_kind (place_named text (codes ":constants") ss) (forms_of text l)) (content_said text domain_sections (codes ":constants") ss x.constants x.constants_there x.are_sections refl)
    ∙ typed_list_said text is_name (Some (what.Objects, 1024)) (place_named text (codes ":constants") ss) refl x.constants d.constants x.constants_are x.few_constants in
    let predicates : predicates_in text ss ≡ record { items = d.predicates; faults = [] } =
    ap (predicates_list text) (content_said text domain_sections (codes ":predicates") ss x.predicates x.predicates_there x.are_sections refl)
    ∙ predicates_said text x.predicates d.predicates x.predicates_are in
    let functions : functions_in text ss ≡ record { items = d.functions; faults = [] } =
    ap (functions_list text (place_named text (codes ":functions") ss)) (content_said text domain_sections (codes ":functions") ss x.functions x.functions_there x.are_sections refl)
    ∙ functions_list_said text (place_named text (codes ":functions") ss) x.functions d.functions x.functions_are in
    let acts = actions_said text ss d.schemas x.schemas in
    let schemas : schemas_in text ss ≡ record { items = d.schemas; faults = [] } = ap₂ (λ (items : List Schema) (faults : List Fault). record { items = items; faults = faults }) acts.0 acts.1 in
    subst (λ (o : Option (List Tree)). Says (option_map_or (λ ts. domain_of_sections text (frame_of text (codes "domain") (place_of text t) ts) (sections_of ts)) o (misfit Domain (place_of text t))) d)
    (sym (frame_parts text (codes "domain") t d.name ss x.frame))
    (all_said name (types_in text ss) (objects_in text (codes ":constants") ss) (predicates_in text ss) (functions_in text ss) (schemas_in text ss) (word_and_repeat_faults text domain_sections ss) (requirements_faults text ss)
    frame sections requirements types constants predicates functions schemas)
  where
    all_said : (name : Parsed Name) (types constants : Listed Typed) (predicates functions : Listed Sig) (schemas : Listed Schema) (sections requirements : List Fault)
        → Says name d.name → sections ≡ [] → requirements ≡ [] → types ≡ record { items = d.types; faults = [] } → constants ≡ record { items = d.constants; faults = [] }
        → predicates ≡ record { items = d.predicates; faults = [] } → functions ≡ record { items = d.functions; faults = [] } → schemas ≡ record { items = d.schemas; faults = [] }
        → (option_map (λ (n : Name). record { name = n; types = types.items; constants = constants.items; predicates = predicates.items; functions = functions.items; schemas = schemas.items }) name.value ≡ Some d)
        × (name.faults ++ sections ++ requirements ++ types.faults ++ constants.faults ++ predicates.faults ++ functions.faults ++ schemas.faults ≡ [])
    all_said name types constants predicates functions schemas sections requirements a b c e f g h i =
        (rw (a.0, e, f, g, h, i) refl, rw (a.1, b, c, e, f, g, h, i) refl)

pub domain_said : (text : List ℕ) (d : Domain) → SpellsDomain text d → (trees : List Tree) × SaysWithoutFault Domain text trees (domain_in text trees) d
domain_said text d x =
    let said = domain_tree_said text x.tree d x.spelled in
    let leaves = leaves_said text x.tree x.spelled.leaves in (
      x.tree ∷ [],
      record {
        trees_of_text = x.one_tree;
        no_fault = no_more (leaves_of text x.tree ++ [] ++ []) (domain_tree text x.tree).faults (no_more (leaves_of text x.tree ++ []) [] (no_more (leaves_of text x.tree) [] leaves refl) refl) said.1;
        value_is = said.0;
      },
    )

-- a text spells at most one domain
pub one_domain : (text : List ℕ) (first second : Domain) → SpellsDomain text first → SpellsDomain text second → first ≡ second
one_domain text first second a b =
    let one = domain_said text first a in
    let other = domain_said text second b in
    let same = one_list text one.0 other.0 one.1.trees_of_text other.1.trees_of_text in
    same_Some first second (sym one.1.value_is ∙ ap (λ (ts : List Tree). (domain_in text ts).value) same ∙ other.1.value_is)

-- trees without a fault say a domain, which the text spells
pub faultless_domain : (text : List ℕ) (trees : List Tree) → AreTrees text trees → (domain_in text trees).faults ≡ [] → (d : Domain) × SpellsDomain text d
faultless_domain text [] are e = absurd (cc e)
faultless_domain text (t ∷ ts) are e =
    let outer = nils (all_leaves text (t ∷ ts) ++ further_trees text (t ∷ ts)) (domain_tree text t).faults e in
    let inner = nils (all_leaves text (t ∷ ts)) (further_trees text (t ∷ ts)) outer.0 in
    let found = domain_tree_fits text t outer.1 (nils (leaves_of text t) (all_leaves text ts) inner.0).0 in
    (found.0, domain_fits text (t ∷ ts) found.0 (record { trees_of_text = are; no_fault = e; value_is = found.1 }))
