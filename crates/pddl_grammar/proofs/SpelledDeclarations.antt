-- Declarations of predicates, functions and types: what trees declare without a fault is what they spell.
use Rattle.std.proofs.Common.{◌≡◌, ℕ, Bool, true, false, ◌&&◌, ◌||◌, not, inl, inr, List, [], ◌∷◌, ◌++◌, Option, Some, None, refl, sym, ap, ap₂, subst, ◌∙◌}
use Rattle.std.specs.Prelude.{bytes_eq, codes, flat_map, option_map, if◌then◌else◌}
use Rattle.std.specs.Option.{option_map_or}
use Rattle.std.specs.List.{list_all}
use Rattle.std.proofs.lemmas.Option.{same_Some}
use Rattle.std.proofs.lemmas.Bool.{cases_Bool, and_parts, and_from, or_from, not-true, not_from_false, false_from_ne_true}
use Rattle.num_ends.specs.Names.{is_name}
use Rattle.sexp_text.specs.declared.trees.Tree.{Tree}
use Rattle.pddl_terms.specs.declared.names.Name.{Name}
use Rattle.pddl_terms.specs.declared.names.Typed.{Typed}
use Rattle.pddl_terms.specs.declared.names.Sig.{Sig}
use Rattle.pddl_terms.specs.declared.limits.What.TheVariants.{Parameters}
use Rattle.pddl_trees.specs.declared.faults.Fault.{Fault}
use Rattle.pddl_trees.specs.declared.faults.Reason.TheVariants.{Unsupported}
use Rattle.pddl_trees.specs.Faults.{fault_at}
use Rattle.pddl_trees.specs.Words.{is_among, is_symbol, is_variable}
use Rattle.pddl_trees.specs.Forms.{Form, misfit, shape_at}
use Rattle.pddl_trees.specs.Trees.{form_of, forms_of, parts_of}
use Rattle.pddl_trees.specs.TypedLists.{Listed, after, names_alone, parameters_kind, typed_list}
use Rattle.pddl_trees.specs.Declarations.{functions_from, functions_list, implied_types, names_of, number_faults, number_type_faults, one_item, predicates_list, signature, signature_parts, types_list, with_implied, with_params}
use Rattle.pddl_trees.specs.Names.{is_headed, is_word, named_at, symbol_name, type_faults, type_name}
use Rattle.pddl_trees.specs.Leaves.{all_leaves, leaves_of}
use Rattle.pddl_grammar.specs.Trees.{Each, IsListAt, IsWordAt}
use Rattle.pddl_grammar.specs.Declarations.{SpellsFunctions, SpellsSig, SpellsTypes, is_without_number}
use Rattle.pddl_grammar.specs.Atoms.{SpellsSymbol}
use Rattle.pddl_grammar.proofs.Spelled.{Says, each_fits_with, each_said, filter_map_values, form_of_list, form_of_word, is_word_there, nils, no_more, parts_listed, parts_there, same_word, word_at, word_is}
use Rattle.pddl_grammar.proofs.SpelledLeaves.{list_leaves}
use Rattle.pddl_grammar.proofs.SpelledLists.{type_fits, typed_list_fits, typed_list_said}

-- ---- signatures

symbol_fits : (text : List ℕ) (t : Tree) → (symbol_name (form_of text t)).faults ≡ [] → (n : Name) × ((symbol_name (form_of text t)).value ≡ Some n) × SpellsSymbol text t n
symbol_fits text t e = by_word (form_of text t).word refl e
  where
    by_word : (o : Option (List ℕ)) → (form_of text t).word ≡ o
        → (option_map_or (λ w. if is_symbol w then record { value = Some (named_at (form_of text t).at w); faults = [] } else misfit Name (form_of text t).at) o (misfit Name (form_of text t).at)).faults ≡ []
        → (n : Name) × ((option_map_or (λ w. if is_symbol w then record { value = Some (named_at (form_of text t).at w); faults = [] } else misfit Name (form_of text t).at) o (misfit Name (form_of text t).at)).value ≡ Some n)
        × SpellsSymbol text t n
    by_word None is k = absurd (cc k)
    by_word (Some w) is k =
        elim (cases_Bool (is_symbol w)) [
          | inl s ↦ (named_at (form_of text t).at w, rw s refl, record { word = word_at text t w is; a_symbol = s })
          | inr n ↦ absurd (cc (rw n at k))
        ]

symbol_said : (text : List ℕ) (t : Tree) (n : Name) → SpellsSymbol text t n → Says (symbol_name (form_of text t)) n
symbol_said text t n x =
    let symbol = x.a_symbol in
    subst (λ (f : Form). Says (symbol_name f) n) (sym (form_of_word text t n.at n.text x.word)) (rw symbol refl, rw symbol refl)

sig_parts_fit : (text : List ℕ) (t : Tree) (at : ℕ) (ts : List Tree) → IsListAt t at ts → (signature_parts at (forms_of text ts)).faults ≡ [] → all_leaves text ts ≡ []
    → (s : Sig) × ((signature_parts at (forms_of text ts)).value ≡ Some s) × SpellsSig text t s
sig_parts_fit text t at [] listed e leaves = absurd (cc e)
sig_parts_fit text t at (u ∷ us) listed e leaves =
    let l = typed_list parameters_kind at (forms_of text us) in
    let faults = nils (symbol_name (form_of text u)).faults l.faults e in
    let fit = nils (leaves_of text u) (all_leaves text us) leaves in
    let name = symbol_fits text u faults.0 in
    let params = typed_list_fits text is_variable (Some (Parameters, 8)) at us faults.1 fit.1 in (
      record { name = name.0; params = l.items },
      ap (option_map (λ (n : Name). record { name = n; params = l.items })) name.1,
      record { at = at; symbol = u; variables = us; list = listed; name = name.2; params = params.0; few = params.1 },
    )

pub sig_fits : (text : List ℕ) (t : Tree) → (signature text t).faults ≡ [] → leaves_of text t ≡ [] → (s : Sig) × ((signature text t).value ≡ Some s) × SpellsSig text t s
sig_fits text t e leaves = by_parts (parts_of t) refl e
  where
    by_parts : (o : Option (List Tree)) → parts_of t ≡ o
        → (option_map_or (λ ts. signature_parts (form_of text t).at (forms_of text ts)) o (misfit Sig (form_of text t).at)).faults ≡ []
        → (s : Sig) × ((option_map_or (λ ts. signature_parts (form_of text t).at (forms_of text ts)) o (misfit Sig (form_of text t).at)).value ≡ Some s) × SpellsSig text t s
    by_parts None is k = absurd (cc k)
    by_parts (Some ts) is k =
        let listed = parts_there text t ts is in
        sig_parts_fit text t (form_of text t).at ts listed k (sym (list_leaves text t (form_of text t).at ts listed) ∙ leaves)

pub sig_said : (text : List ℕ) (t : Tree) (s : Sig) → SpellsSig text t s → Says (signature text t) s
sig_said text t s x =
    let place = (form_of text t).at in
    let parts = parts_listed t x.at (x.symbol ∷ x.variables) x.list in
    let name = symbol_said text x.symbol s.name x.name in
    let params : typed_list parameters_kind place (forms_of text x.variables) ≡ record { items = s.params; faults = [] } =
    typed_list_said text is_variable (Some (Parameters, 8)) place refl x.variables s.params x.params x.few in
    let said : Says (with_params (symbol_name (form_of text x.symbol)) (record { items = s.params; faults = [] })) s =
    (ap (option_map (λ (n : Name). record { name = n; params = s.params })) name.0, no_more (symbol_name (form_of text x.symbol)).faults [] name.1 refl) in
    subst (λ (o : Option (List Tree)). Says (option_map_or (λ ts. signature_parts place (forms_of text ts)) o (misfit Sig place)) s) (sym parts)
    (subst (λ (l : Listed Typed). Says (with_params (symbol_name (form_of text x.symbol)) l) s) (sym params) said)

-- ---- predicates

pub predicates_fit : (text : List ℕ) (ts : List Tree) → (predicates_list text ts).faults ≡ [] → all_leaves text ts ≡ [] → Each (SpellsSig text) ts (predicates_list text ts).items
predicates_fit text ts e leaves =
    let found = each_fits_with (signature text) (leaves_of text) (SpellsSig text) (sig_fits text) ts e leaves in
    subst (Each (SpellsSig text) ts) (sym (filter_map_values (λ t. (signature text t).value) ts found.0 found.1)) found.2

pub predicates_said : (text : List ℕ) (ts : List Tree) (ss : List Sig) → Each (SpellsSig text) ts ss → predicates_list text ts ≡ record { items = ss; faults = [] }
predicates_said text ts ss each =
    let said = each_said (signature text) (SpellsSig text) (sig_said text) ts ss each in
    ap₂ (λ (items : List Sig) (faults : List Fault). record { items = items; faults = faults }) (filter_map_values (λ t. (signature text t).value) ts ss said.0) said.1

-- ---- functions

module _ (text : List ℕ) (at : ℕ) (signed : Bool) (t : Tree) (ts : List Tree) where
  functions_dash : is_word (codes "-") (form_of text t) ≡ true
      → functions_from text at false signed (t ∷ ts) ≡ after [] (if signed then [] else shape_at (form_of text t).at ∷ []) (functions_from text at true false ts)
  unfolding functions_from
  functions_dash dash = rw dash refl

  functions_sig : is_word (codes "-") (form_of text t) ≡ false
      → functions_from text at false signed (t ∷ ts) ≡ after (one_item (signature text t).value) (signature text t).faults (functions_from text at false true ts)
  unfolding functions_from
  functions_sig other = rw other refl

  functions_kind : functions_from text at true signed (t ∷ ts) ≡ after [] (number_type_faults (form_of text t)) (functions_from text at false false ts)
  unfolding functions_from
  functions_kind = refl

functions_none : (text : List ℕ) (at : ℕ) (signed : Bool) → functions_from text at false signed [] ≡ record { items = []; faults = [] }
unfolding functions_from
functions_none text at signed = refl

functions_end : (text : List ℕ) (at : ℕ) (signed : Bool) → (functions_from text at true signed []).faults ≡ [] → ⊥
unfolding functions_from
functions_end text at signed e = cc

-- a signature that may still have its type behind it, and one with a dash behind it
data Pending (text : List ℕ) : Bool → Bool → List Tree → List Sig → Type 0 where
  settled : Pending text false false [] []
  awaiting : (u : Tree) (s : Sig) → SpellsSig text u s → Pending text false true (u ∷ []) (s ∷ [])
  dashed : (u d : Tree) (at : ℕ) (s : Sig) (b : Bool) → SpellsSig text u s → IsWordAt text d at (codes "-") → Pending text true b (u ∷ d ∷ []) (s ∷ [])

-- the type of a function that has no fault
number_fits : (text : List ℕ) (t : Tree) → number_type_faults (form_of text t) ≡ [] → leaves_of text t ≡ [] → (at : ℕ) × IsWordAt text t at (codes "number")
number_fits text t e leaves = by_name (type_name (form_of text t)) refl e
  where
    by_name : (o : Option Name) → type_name (form_of text t) ≡ o
        → option_map_or (λ n. if bytes_eq n.text (codes "number") then [] else fault_at n.at Unsupported ∷ []) o (type_faults (form_of text t)) ≡ [] → (at : ℕ) × IsWordAt text t at (codes "number")
    by_name None is k =
        let found = type_fits text t k leaves in
        absurd (cc (sym is ∙ found.1))
    by_name (Some n) is k =
        elim (cases_Bool (bytes_eq n.text (codes "number"))) [
          | inl same ↦
              let fault : type_faults (form_of text t) ≡ [] = ap (λ (o : Option Name). option_map_or (λ m. []) o (if is_headed (codes "either") (form_of text t) then [] else shape_at (form_of text t).at ∷ [])) is in
              let found = type_fits text t fault leaves in
              let name = same_Some found.0 n (sym found.1 ∙ is) in
              (found.0.at, subst (λ (w : List ℕ). IsWordAt text t found.0.at w) (ap (λ (m : Name). m.text) name ∙ same_word n.text (codes "number") same) found.2.word)
          | inr other ↦ absurd (cc (rw other at k))
        ]

functions_fit : (text : List ℕ) (at : ℕ) (ts : List Tree) (dash sig : Bool) (us : List Tree) (ss : List Sig) → Pending text dash sig us ss
    → (functions_from text at dash sig ts).faults ≡ [] → all_leaves text ts ≡ [] → SpellsFunctions text (us ++ ts) (ss ++ (functions_from text at dash sig ts).items)
functions_fit text at [] dash sig us ss Pending.settled e leaves =
    subst (λ (l : Listed Sig). SpellsFunctions text [] l.items) (sym (functions_none text at false)) SpellsFunctions.none
functions_fit text at [] dash sig us ss (Pending.awaiting u s x) e leaves =
    subst (λ (l : Listed Sig). SpellsFunctions text (u ∷ []) (s ∷ l.items)) (sym (functions_none text at true)) (SpellsFunctions.plain u [] s [] x SpellsFunctions.none)
functions_fit text at [] dash sig us ss (Pending.dashed u d place s b x y) e leaves = absurd (functions_end text at b e)
functions_fit text at (t ∷ ts) dash sig us ss Pending.settled e leaves =
    let fit = nils (leaves_of text t) (all_leaves text ts) leaves in
    elim (cases_Bool (is_word (codes "-") (form_of text t))) [
      | inl d ↦ absurd (cc (sym (ap (λ (l : Listed Sig). l.faults) (functions_dash text at false t ts d)) ∙ e))
      | inr other ↦
          let step = functions_sig text at false t ts other in
          let rest = functions_from text at false true ts in
          let faults = nils (signature text t).faults rest.faults (sym (ap (λ (l : Listed Sig). l.faults) step) ∙ e) in
          let found = sig_fits text t faults.0 fit.0 in
          let later = functions_fit text at ts false true (t ∷ []) (found.0 ∷ []) (Pending.awaiting t found.0 found.2) faults.1 fit.1 in
          let items : (functions_from text at false false (t ∷ ts)).items ≡ found.0 ∷ rest.items = ap (λ (l : Listed Sig). l.items) step ∙ ap (λ (o : Option Sig). one_item o ++ rest.items) found.1 in
          subst (SpellsFunctions text (t ∷ ts)) (sym items) later
    ]
functions_fit text at (t ∷ ts) dash sig us ss (Pending.awaiting u s x) e leaves =
    let fit = nils (leaves_of text t) (all_leaves text ts) leaves in
    elim (cases_Bool (is_word (codes "-") (form_of text t))) [
      | inl d ↦
          let step = functions_dash text at true t ts d in
          let rest = functions_from text at true false ts in
          let faults : rest.faults ≡ [] = sym (ap (λ (l : Listed Sig). l.faults) step) ∙ e in
          let word = word_at text t (codes "-") (is_word_there (form_of text t) (codes "-") d) in
          let later = functions_fit text at ts true false (u ∷ t ∷ []) (s ∷ []) (Pending.dashed u t (form_of text t).at s false x word) faults fit.1 in
          subst (λ (l : Listed Sig). SpellsFunctions text (u ∷ t ∷ ts) (s ∷ l.items)) (sym step) later
      | inr other ↦
          let step = functions_sig text at true t ts other in
          let rest = functions_from text at false true ts in
          let faults = nils (signature text t).faults rest.faults (sym (ap (λ (l : Listed Sig). l.faults) step) ∙ e) in
          let found = sig_fits text t faults.0 fit.0 in
          let later = functions_fit text at ts false true (t ∷ []) (found.0 ∷ []) (Pending.awaiting t found.0 found.2) faults.1 fit.1 in
          let items : (functions_from text at false true (t ∷ ts)).items ≡ found.0 ∷ rest.items = ap (λ (l : Listed Sig). l.items) step ∙ ap (λ (o : Option Sig). one_item o ++ rest.items) found.1 in
          SpellsFunctions.plain u (t ∷ ts) s (functions_from text at false true (t ∷ ts)).items x (subst (SpellsFunctions text (t ∷ ts)) (sym items) later)
    ]
functions_fit text at (t ∷ ts) dash sig us ss (Pending.dashed u d place s b x y) e leaves =
    let fit = nils (leaves_of text t) (all_leaves text ts) leaves in
    let step = functions_kind text at b t ts in
    let rest = functions_from text at false false ts in
    let faults = nils (number_type_faults (form_of text t)) rest.faults (sym (ap (λ (l : Listed Sig). l.faults) step) ∙ e) in
    let number = number_fits text t faults.0 fit.0 in
    let later = functions_fit text at ts false false [] [] Pending.settled faults.1 fit.1 in
    subst (λ (l : Listed Sig). SpellsFunctions text (u ∷ d ∷ t ∷ ts) (s ∷ l.items)) (sym step)
    (SpellsFunctions.numeric u d t place number.0 ts s rest.items x y number.1 later)

pub functions_list_fits : (text : List ℕ) (at : ℕ) (ts : List Tree) → (functions_list text at ts).faults ≡ [] → all_leaves text ts ≡ [] → SpellsFunctions text ts (functions_list text at ts).items
functions_list_fits text at ts e leaves = functions_fit text at ts false false [] [] Pending.settled e leaves

no_dash : (text : List ℕ) (t : Tree) (s : Sig) → SpellsSig text t s → is_word (codes "-") (form_of text t) ≡ false
no_dash text t s x = ap (is_word (codes "-")) (form_of_list text t x.at (x.symbol ∷ x.variables) x.list)

sig_step : (text : List ℕ) (at : ℕ) (signed : Bool) (t : Tree) (ts : List Tree) (s : Sig) → SpellsSig text t s
    → functions_from text at false signed (t ∷ ts) ≡ after (s ∷ []) [] (functions_from text at false true ts)
sig_step text at signed t ts s x =
    let said = sig_said text t s x in
    functions_sig text at signed t ts (no_dash text t s x)
    ∙ ap₂ (λ (o : Option Sig) (faults : List Fault). after (one_item o) faults (functions_from text at false true ts)) said.0 said.1

functions_said : (text : List ℕ) (at : ℕ) (ts : List Tree) (ss : List Sig) → SpellsFunctions text ts ss → (signed : Bool) → functions_from text at false signed ts ≡ record { items = ss; faults = [] }
functions_said text at ts ss SpellsFunctions.none signed = functions_none text at signed
functions_said text at ts ss (SpellsFunctions.plain t us s others x rest) signed =
    sig_step text at signed t us s x ∙ ap (after (s ∷ []) []) (functions_said text at us others rest true)
functions_said text at ts ss (SpellsFunctions.numeric t d k place kind_at us s others x y z rest) signed =
    let dash = functions_dash text at true d (k ∷ us) (word_is text d place (codes "-") y) in
    let number : number_type_faults (form_of text k) ≡ [] = ap number_type_faults (form_of_word text k kind_at (codes "number") z) in
    sig_step text at signed t (d ∷ k ∷ us) s x
    ∙ ap (after (s ∷ []) []) (dash ∙ functions_kind text at false k us
    ∙ ap (λ (faults : List Fault). after [] faults (functions_from text at false false us)) number
    ∙ functions_said text at us others rest false)

pub functions_list_said : (text : List ℕ) (at : ℕ) (ts : List Tree) (ss : List Sig) → SpellsFunctions text ts ss → functions_list text at ts ≡ record { items = ss; faults = [] }
functions_list_said text at ts ss spelled = functions_said text at ts ss spelled false

-- ---- types

abbrev no_number_kind : List Typed → Bool
no_number_kind items = list_all (λ (t : Typed). not (bytes_eq t.kind.text (codes "number"))) items

abbrev has_number : List Typed → Bool
has_number items = is_among (codes "number") (names_of items)

pub list_all-append : {A : Type 0} (test : A → Bool) (xs ys : List A) → list_all test xs ≡ true → list_all test ys ≡ true → list_all test (xs ++ ys) ≡ true
list_all-append test [] ys h k = k
list_all-append test (x ∷ xs) ys h k =
    let parts = and_parts (test x) (list_all test xs) h in
    and_from (test x) (list_all test (xs ++ ys)) parts.0 (list_all-append test xs ys parts.1 k)

pub list_all_parts : {A : Type 0} (test : A → Bool) (xs ys : List A) → list_all test (xs ++ ys) ≡ true → (list_all test xs ≡ true) × (list_all test ys ≡ true)
list_all_parts test [] ys h = (refl, h)
list_all_parts test (x ∷ xs) ys h =
    let parts = and_parts (test x) (list_all test (xs ++ ys)) h in
    let rest = list_all_parts test xs ys parts.1 in
    (and_from (test x) (list_all test xs) parts.0 rest.0, rest.1)

-- a name that is `number` is a fault, and so is a type that is it, where no name is
number_fault_parts : (names : List (List ℕ)) (t : Typed) → number_faults names t ≡ []
    → (bytes_eq t.name.text (codes "number") ≡ false) × (is_among (codes "number") names ≡ false → bytes_eq t.kind.text (codes "number") ≡ false)
number_fault_parts names t e =
    let parts = nils (if bytes_eq t.name.text (codes "number") then shape_at t.name.at ∷ [] else []) (if bytes_eq t.kind.text (codes "number") && not (is_among (codes "number") names) then shape_at t.kind.at ∷ [] else []) e in
    (false_from_ne_true _ (λ b. absurd (cc (rw b at parts.0))), λ none. false_from_ne_true _ (λ b. absurd (cc (rw (b, none) at parts.1))))

no_number_fault : (names : List (List ℕ)) (t : Typed) → bytes_eq t.name.text (codes "number") ≡ false → bytes_eq t.kind.text (codes "number") ≡ false → number_faults names t ≡ []
no_number_fault names t name kind = rw (name, kind) refl

names_unnumbered : (names : List (List ℕ)) (items : List Typed) → flat_map (number_faults names) items ≡ [] → is_without_number items ≡ true
names_unnumbered names [] e = refl
names_unnumbered names (t ∷ ts) e =
    let parts = nils (number_faults names t) (flat_map (number_faults names) ts) e in
    and_from _ _ (not_from_false _ (number_fault_parts names t parts.0).0) (names_unnumbered names ts parts.1)

kinds_unnumbered : (names : List (List ℕ)) (items : List Typed) → flat_map (number_faults names) items ≡ [] → is_among (codes "number") names ≡ false → no_number_kind items ≡ true
kinds_unnumbered names [] e none = refl
kinds_unnumbered names (t ∷ ts) e none =
    let parts = nils (number_faults names t) (flat_map (number_faults names) ts) e in
    and_from _ _ (not_from_false _ ((number_fault_parts names t parts.0).1 none)) (kinds_unnumbered names ts parts.1 none)

not_among : (items : List Typed) → is_without_number items ≡ true → has_number items ≡ false
not_among [] h = refl
not_among (t ∷ ts) h =
    let parts = and_parts (not (bytes_eq t.name.text (codes "number"))) (is_without_number ts) h in
    or_from (bytes_eq t.name.text (codes "number")) (has_number ts) (not-true _ parts.0) (not_among ts parts.1)

faultless_numbers : (names : List (List ℕ)) (items : List Typed) → is_without_number items ≡ true → no_number_kind items ≡ true → flat_map (number_faults names) items ≡ []
faultless_numbers names [] h k = refl
faultless_numbers names (t ∷ ts) h k =
    let name = and_parts (not (bytes_eq t.name.text (codes "number"))) (is_without_number ts) h in
    let kind = and_parts (not (bytes_eq t.kind.text (codes "number"))) (no_number_kind ts) k in
    no_more (number_faults names t) (flat_map (number_faults names) ts) (no_number_fault names t (not-true _ name.0) (not-true _ kind.0)) (faultless_numbers names ts name.1 kind.1)

-- a type that is implied is the type of a declared one
implied_unnumbered : (known : List (List ℕ)) (items : List Typed) → no_number_kind items ≡ true → is_without_number (implied_types known items) ≡ true
implied_unnumbered known [] h = refl
implied_unnumbered known (t ∷ ts) h =
    let parts = and_parts (not (bytes_eq t.kind.text (codes "number"))) (no_number_kind ts) h in
    elim (cases_Bool (is_among t.kind.text known || bytes_eq t.kind.text (codes "object"))) [
      | inl there ↦ rw there (implied_unnumbered known ts parts.1)
      | inr fresh ↦ rw fresh (and_from _ _ parts.0 (implied_unnumbered (t.kind.text ∷ known) ts parts.1))
    ]

-- where `number` isn't known, it is implied by each that has it as its type
implied_numbers : (known : List (List ℕ)) (items : List Typed) → is_among (codes "number") known ≡ false → is_without_number (implied_types known items) ≡ true → no_number_kind items ≡ true
implied_numbers known [] none h = refl
implied_numbers known (t ∷ ts) none h =
    elim (cases_Bool (is_among t.kind.text known || bytes_eq t.kind.text (codes "object"))) [
      | inl there ↦
          let other : bytes_eq t.kind.text (codes "number") ≡ false =
          false_from_ne_true _ (λ same. number_there (same_word t.kind.text (codes "number") same) there) in
          and_from _ _ (not_from_false _ other) (implied_numbers known ts none (rw there at h))
      | inr fresh ↦
          let parts = and_parts (not (bytes_eq t.kind.text (codes "number"))) _ (rw fresh at h) in
          and_from _ _ parts.0 (implied_numbers (t.kind.text ∷ known) ts (or_from _ _ (not-true _ parts.0) none) parts.1)
    ]
  where
    number_there : t.kind.text ≡ codes "number" → (is_among t.kind.text known || bytes_eq t.kind.text (codes "object")) ≡ true → ⊥
    number_there same there =
        let at_number = sym (ap (λ (w : List ℕ). is_among w known || bytes_eq w (codes "object")) same) ∙ there in
        let neither = or_from (is_among (codes "number") known) (bytes_eq (codes "number") (codes "object")) none refl in
        cc

pub types_fit : (text : List ℕ) (at : ℕ) (ts : List Tree) → (types_list at (forms_of text ts)).faults ≡ [] → all_leaves text ts ≡ [] → SpellsTypes text ts (types_list at (forms_of text ts)).items
types_fit text at ts e leaves =
    let l = typed_list names_alone at (forms_of text ts) in
    let parts = nils l.faults (flat_map (number_faults (names_of l.items)) l.items) e in
    let names = names_unnumbered (names_of l.items) l.items parts.1 in
    let kinds = kinds_unnumbered (names_of l.items) l.items parts.1 (not_among l.items names) in
    record {
      declared = l.items;
      list = (typed_list_fits text is_name None at ts parts.0 leaves).0;
      types_are = refl;
      no_number = list_all-append _ l.items (implied_types (names_of l.items) l.items) names (implied_unnumbered (names_of l.items) l.items kinds);
    }

pub types_said : (text : List ℕ) (at : ℕ) (ts : List Tree) (types : List Typed) → SpellsTypes text ts types → types_list at (forms_of text ts) ≡ record { items = types; faults = [] }
types_said text at ts types x =
    let said = typed_list_said text is_name None at refl ts x.declared x.list tt in
    let both = list_all_parts _ x.declared (implied_types (names_of x.declared) x.declared) (subst (λ (l : List Typed). is_without_number l ≡ true) x.types_are x.no_number) in
    let kinds = implied_numbers (names_of x.declared) x.declared (not_among x.declared both.0) both.1 in
    let faults = faultless_numbers (names_of x.declared) x.declared both.0 kinds in
    ap with_implied said ∙ ap₂ (λ (items : List Typed) (l : List Fault). record { items = items; faults = l }) (sym x.types_are) faults
