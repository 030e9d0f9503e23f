-- Some numbers that are codes of atoms are the codes of a list of atoms by rising codes.
use Rattle.std.proofs.Common.{◌≡◌, ◌<◌, ◌⊎◌, ◌↔◌, ℕ, List, [], ◌∷◌, map, sym, ◌∙◌, inl, inr, arith}
use Rattle.std.proofs.lemmas.Bool.{cases_lt}
use Rattle.pddl_types.specs.WellFormed.{Each, Stands}
use Rattle.ground_meaning.specs.Tasks.{AreAllOf}
use Rattle.ground_meaning.proofs.KeptAtoms.{IsCodeOf}
use Rattle.ground_meaning.proofs.Lists.{all_of_each, each_more, each_stands, each_where}
use Rattle.ground_meaning.proofs.OneTask.{Rises, increasing}

module _ (IsAtom : List (List ℕ) → Type 0) (code : List (List ℕ) → ℕ) where
  -- atoms by rising codes, which are these numbers
  record AreOrdered (ns : ℕ → Type 0) : Type 0 where
    atoms : List (List (List ℕ))
    are_atoms : Each IsAtom atoms
    rising : Rises (map code atoms)
    into : (n : ℕ) → Stands n (map code atoms) → ns n
    back : (n : ℕ) → ns n → Stands n (map code atoms)

  abbrev OrStands : ℕ → List ℕ → ℕ → Type 0
  OrStands x ns n = (n ≡ x) ⊎ Stands n ns

  -- a further atom at its place
  insert : (x : List (List ℕ)) → IsAtom x → (atoms : List (List (List ℕ))) → Each IsAtom atoms → Rises (map code atoms) → AreOrdered (OrStands (code x) (map code atoms))
  insert x is [] are rising = record { atoms = x ∷ []; are_atoms = (is, tt); rising = (tt, tt); into = λ n s. s; back = λ n s. s }
  insert x is (y ∷ ys) are rising =
      elim (cases_lt (code x) (code y)) [
        | inl less ↦ before less
        | inr most ↦ elim (cases_lt (code y) (code x)) [ inl more ↦ behind more (insert x is ys are.1 rising.1) | inr least ↦ same (omega (arith, most, least)) ]
      ]
    where
      before : code x < code y → AreOrdered (OrStands (code x) (map code (y ∷ ys)))
      before less = record {
        atoms = x ∷ y ∷ ys;
        are_atoms = (is, are);
        rising = ((less, each_more (λ n. code y < n) (λ n. code x < n) (map code ys) (λ n k. omega (arith, less, k)) rising.0), rising);
        into = λ n s. s;
        back = λ n s. s;
      }

      same : code x ≡ code y → AreOrdered (OrStands (code x) (map code (y ∷ ys)))
      same e = record { atoms = y ∷ ys; are_atoms = are; rising = rising; into = λ n s. inr s; back = alike }
        where
          alike : (n : ℕ) → OrStands (code x) (map code (y ∷ ys)) n → Stands n (map code (y ∷ ys))
          alike n (inl k) = inl (k ∙ e)
          alike n (inr s) = s

      behind : code y < code x → AreOrdered (OrStands (code x) (map code ys)) → AreOrdered (OrStands (code x) (map code (y ∷ ys)))
      behind more rest = record {
        atoms = y ∷ rest.atoms;
        are_atoms = (are.0, rest.are_atoms);
        rising = (each_where (λ n. code y < n) (map code rest.atoms) (λ n s. above n (rest.into n s)), rest.rising);
        into = inside;
        back = outside;
      }
        where
          above : (n : ℕ) → OrStands (code x) (map code ys) n → code y < n
          above n (inl e) = omega (arith, more, e)
          above n (inr s) = each_stands (λ m. code y < m) (map code ys) n rising.0 s

          inside : (n : ℕ) → Stands n (map code (y ∷ rest.atoms)) → OrStands (code x) (map code (y ∷ ys)) n
          inside n (inl e) = inr (inl e)
          inside n (inr s) = elim (rest.into n s) [ inl e ↦ inl e | inr k ↦ inr (inr k) ]

          outside : (n : ℕ) → OrStands (code x) (map code (y ∷ ys)) n → Stands n (map code (y ∷ rest.atoms))
          outside n (inl e) = inr (rest.back n (inl e))
          outside n (inr (inl e)) = inl e
          outside n (inr (inr s)) = inr (rest.back n (inr s))

  ordered : (ns : List ℕ) → Each (IsCodeOf IsAtom code) ns → AreOrdered (λ n. Stands n ns)
  ordered [] are = record { atoms = []; are_atoms = tt; rising = tt; into = λ n s. s; back = λ n s. s }
  ordered (m ∷ ns) are = further (ordered ns are.1)
    where
      further : AreOrdered (λ n. Stands n ns) → AreOrdered (λ n. Stands n (m ∷ ns))
      further rest = record { atoms = whole.atoms; are_atoms = whole.are_atoms; rising = whole.rising; into = λ n s. inside n (whole.into n s); back = λ n s. whole.back n (outside n s) }
        where
          whole : AreOrdered (OrStands (code are.0.atom) (map code rest.atoms))
          whole = insert are.0.atom are.0.is_atom rest.atoms rest.are_atoms rest.rising

          inside : (n : ℕ) → OrStands (code are.0.atom) (map code rest.atoms) n → Stands n (m ∷ ns)
          inside n (inl e) = inl (e ∙ are.0.coded)
          inside n (inr s) = inr (rest.into n s)

          outside : (n : ℕ) → Stands n (m ∷ ns) → OrStands (code are.0.atom) (map code rest.atoms) n
          outside n (inl e) = inl (e ∙ sym are.0.coded)
          outside n (inr s) = inr (rest.back n s)

  -- a property that these numbers have, and no others, has a list of all its atoms
  pub all_atoms : (P : ℕ → Type 0) (ns : List ℕ) → Each (IsCodeOf IsAtom code) ns → ((n : ℕ) → Stands n ns ↔ P n) → (atoms : List (List (List ℕ))) × AreAllOf IsAtom code P atoms
  all_atoms P ns are alike =
      let found = ordered ns are in (
        found.atoms,
        record {
          are_atoms = all_of_each IsAtom found.atoms found.are_atoms;
          rising = increasing (map code found.atoms) found.rising;
          exactly = λ n. (λ s. (alike n).0 (found.into n s), λ s. found.back n ((alike n).1 s));
        },
      )
