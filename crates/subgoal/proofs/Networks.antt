-- Atoms and their numbers are added to a network.
use Rattle.std.proofs.Common.{◌≡◌, ℕ, ◌+◌, ◌<◌, ◌≤◌, ◌++◌, List, [], ◌∷◌, Option, Some, All, length, take, get_or, map, refl, sym, ap, ap₂, ◌∙◌, arith, subst, slice_get, slice_index_or}
use Rattle.std.specs.List.{flat_map}
use Rattle.std.proofs.Math.ListN.{get_or-append}
use Rattle.std.proofs.lemmas.List.{append-nil, flat_map_more, get_or-map, length-map, map-append, take_more, take_all}
use Rattle.std.proofs.lemmas.List.Elements.{All-append, All-cons, All-nil}
use Rattle.std.proofs.lemmas.Option.{get_or_from_slice_get, slice_get-get_or, slice_get_within}
use Rattle.ground_task.specs.declared.raw.GCond.{GCond}
use Rattle.ground_task.specs.Tasks.{TaskValue}
use Rattle.subgoal.specs.declared.network.Atom.{Atom}
use Rattle.subgoal.specs.declared.network.Network.{Network}
use Rattle.subgoal.specs.Network.{atoms_of, atoms_of_task, conditions_of, picked, preconditions_of, Adds, IsAtom, IsNetwork}

got_more : (cs more : List GCond) (n : ℕ) (x : GCond) → slice_get cs n ≡ Some x → slice_get (cs ++ more) n ≡ Some x
got_more cs more n x e =
    let within : n < length cs = slice_get_within cs n x e in
    slice_get-get_or (cs ++ more) n x (omega (arith, within, length-append_of cs more))
    ∙ ap Some (get_or-append cs more x n within ∙ get_or_from_slice_get cs n x x e)
  where
    length-append_of : (xs ys : List GCond) → length (xs ++ ys) ≡ length xs + length ys
    length-append_of [] ys = omega arith
    length-append_of (z ∷ xs) ys = omega (arith, length-append_of xs ys)

got_last : (cs : List GCond) (x : GCond) → slice_get (cs ++ x ∷ []) (length cs) ≡ Some x
got_last [] x = refl
got_last (y ∷ cs) x = got_last cs x

heads : (a b : Option GCond) (xs ys : List (Option GCond)) → a ∷ xs ≡ b ∷ ys → (a ≡ b) × (xs ≡ ys)
heads a b xs ys e = ((cc), (cc))

named_more : (cs more : List GCond) (ns : List ℕ) (before : List GCond) → map (slice_get cs) ns ≡ map Some before → map (slice_get (cs ++ more)) ns ≡ map Some before
named_more cs more [] [] e = refl
named_more cs more [] (x ∷ xs) e = cc
named_more cs more (n ∷ ns) [] e = cc
named_more cs more (n ∷ ns) (x ∷ xs) e =
    let parts = heads (slice_get cs n) (Some x) (map (slice_get cs) ns) (map Some xs) e in
    ap₂ (λ (a : Option GCond) (those : List (Option GCond)). a ∷ those) (got_more cs more n x parts.0) (named_more cs more ns xs parts.1)

one_named : (cs : List GCond) (ns : List ℕ) (n : ℕ) (before : List GCond) (x : GCond) → map (slice_get cs) ns ≡ map Some before → slice_get cs n ≡ Some x
    → map (slice_get cs) (ns ++ n ∷ []) ≡ map Some (before ++ x ∷ [])
one_named cs ns n before x e f =
    map-append (slice_get cs) ns (n ∷ []) ∙ ap₂ (λ (those : List (Option GCond)) (a : Option GCond). those ++ a ∷ []) e f ∙ sym (map-append Some before (x ∷ []))

module _ (t : TaskValue) (old new : Network) where
  pub number_added : (x : GCond) (n : ℕ) → slice_get (conditions_of old.atoms.items) n ≡ Some x
      → new.atoms.items ≡ old.atoms.items → new.numbers.items ≡ old.numbers.items ++ n ∷ [] → Adds t old new (x ∷ [])
  number_added x n named e f = λ before h. record {
    are_atoms = subst (All (IsAtom t)) (sym e) h.are_atoms;
    named = ap₂ (λ (those : List Atom) (ns : List ℕ). map (slice_get (conditions_of those)) ns) e f
        ∙ one_named (conditions_of old.atoms.items) old.numbers.items n before x h.named named;
  }

  pub atom_added : (atom : Atom) → IsAtom t atom → new.atoms.items ≡ old.atoms.items ++ atom ∷ []
      → new.numbers.items ≡ old.numbers.items ++ length old.atoms.items ∷ [] → Adds t old new (atom.cond.now ∷ [])
  atom_added atom is e f = λ before h.
      let cs = conditions_of old.atoms.items in
      let x = atom.cond.now in
      let last : slice_get (cs ++ x ∷ []) (length old.atoms.items) ≡ Some x =
      ap (slice_get (cs ++ x ∷ [])) (sym (length-map old.atoms.items (λ (a : Atom). a.cond.now))) ∙ got_last cs x in
      record {
        are_atoms = subst (All (IsAtom t)) (sym e)
            (All-append (IsAtom t) old.atoms.items (atom ∷ []) h.are_atoms (All-cons (IsAtom t) atom [] is (All-nil (IsAtom t))));
        named = ap₂ (λ (those : List Atom) (ns : List ℕ). map (slice_get (conditions_of those)) ns) e f
            ∙ ap (λ (those : List GCond). map (slice_get those) (old.numbers.items ++ length old.atoms.items ∷ [])) (map-append (λ (a : Atom). a.cond.now) old.atoms.items (atom ∷ []))
            ∙ one_named (cs ++ x ∷ []) old.numbers.items (length old.atoms.items) before x (named_more cs (x ∷ []) old.numbers.items before h.named) last;
      }

pub none_added : (t : TaskValue) (network : Network) (conds : List GCond) → conds ≡ [] → Adds t network network conds
none_added t network conds none = λ before h.
    subst (IsNetwork t network) (sym (ap (λ (cs : List GCond). before ++ cs) none ∙ append-nil before)) h

-- one thing after another
pub added_next : {X : Type 0} (t : TaskValue) (old mid new : Network) (f : X → List GCond) (xs : List X) (i : ℕ) (x other : X) → i < length xs → x ≡ get_or xs i other
    → Adds t old mid (flat_map f (take i xs)) → Adds t mid new (f x) → Adds t old new (flat_map f (take (i + 1) xs))
added_next t old mid new f xs i x other within is first second = λ before h.
    subst (IsNetwork t new)
    (ap (λ (y : _). (before ++ flat_map f (take i xs)) ++ f y) is ∙ flat_map_more f before (take i xs) (get_or xs i other)
    ∙ ap (λ (ys : List _). before ++ flat_map f ys) (sym (take_more xs i other within)))
    (second (before ++ flat_map f (take i xs)) (first before h))

pub added_end : {X : Type 0} (t : TaskValue) (old new : Network) (f : X → List GCond) (xs : List X) (i : ℕ) → length xs ≤ i
    → Adds t old new (flat_map f (take i xs)) → Adds t old new (flat_map f xs)
added_end t old new f xs i past h = subst (λ (ys : List _). Adds t old new (flat_map f ys)) (take_all i xs past) h

-- a network without atoms
pub none_named : (t : TaskValue) (network : Network) → network.atoms.items ≡ [] → network.numbers.items ≡ [] → IsNetwork t network []
none_named t network e f = record {
  are_atoms = subst (All (IsAtom t)) (sym e) (All-nil (IsAtom t));
  named = ap (map (slice_get (conditions_of network.atoms.items))) f;
}

pub as_many_numbers : (t : TaskValue) (network : Network) (conds : List GCond) → IsNetwork t network conds → length network.numbers.items ≡ length conds
as_many_numbers t network conds h =
    sym (length-map network.numbers.items (slice_get (conditions_of network.atoms.items))) ∙ ap length h.named ∙ length-map conds Some

-- the atoms of a task, those of the goal first
module _ (t : TaskValue) (empty mid new : Network) (goal : GCond) (none : empty.atoms.items ≡ []) (also : empty.numbers.items ≡ [])
    (is : goal ≡ t.raw.goal) (first : Adds t empty mid (atoms_of goal)) where
  goal_named : IsNetwork t mid (atoms_of t.raw.goal)
  goal_named = subst (λ (x : GCond). IsNetwork t mid (atoms_of x)) is (first [] (none_named t empty none also))

  pub goal_counted : (n : ℕ) → n ≡ length mid.numbers.items → n ≡ length (atoms_of t.raw.goal)
  goal_counted n e = e ∙ as_many_numbers t mid (atoms_of t.raw.goal) goal_named

  pub task_named : Adds t mid new (preconditions_of t) → IsNetwork t new (atoms_of_task t)
  task_named second = second (atoms_of t.raw.goal) goal_named

-- ---- values by the numbers

one_picked : (cs : List GCond) (f : GCond → ℕ) (n : ℕ) (x : GCond) → slice_get cs n ≡ Some x → slice_index_or (map f cs) n 0 ≡ f x
one_picked cs f n x e = get_or-map f cs n x 0 (slice_get_within cs n x e) ∙ ap f (get_or_from_slice_get cs n x x e)

picked_each : (cs : List GCond) (f : GCond → ℕ) (ns : List ℕ) (conds : List GCond) → map (slice_get cs) ns ≡ map Some conds → picked (map f cs) ns ≡ map f conds
picked_each cs f [] [] e = refl
picked_each cs f [] (x ∷ xs) e = cc
picked_each cs f (n ∷ ns) [] e = cc
picked_each cs f (n ∷ ns) (x ∷ xs) e =
    let parts = heads (slice_get cs n) (Some x) (map (slice_get cs) ns) (map Some xs) e in
    ap₂ (λ (a : ℕ) (those : List ℕ). a ∷ those) (one_picked cs f n x parts.0) (picked_each cs f ns xs parts.1)

map_twice : (f : GCond → ℕ) (atoms : List Atom) → map (λ a. f a.cond.now) atoms ≡ map f (conditions_of atoms)
map_twice f [] = refl
map_twice f (a ∷ atoms) = ap (λ (ns : List ℕ). f a.cond.now ∷ ns) (map_twice f atoms)

pub network_picked : (t : TaskValue) (network : Network) (conds : List GCond) (f : GCond → ℕ) (weights : List ℕ) → IsNetwork t network conds
    → weights ≡ map (λ a. f a.cond.now) network.atoms.items → picked weights network.numbers.items ≡ map f conds
network_picked t network conds f weights h is =
    ap (λ (ws : List ℕ). picked ws network.numbers.items) (is ∙ map_twice f network.atoms.items)
    ∙ picked_each (conditions_of network.atoms.items) f network.numbers.items conds h.named
