-- Where names are distinct and not empty, a name has a number exactly where it stands there.
use Rattle.std.proofs.Common.{◌≡◌, inl, inr, ℕ, zero, suc, ◌+◌, Bool, true, false, List, [], ◌∷◌, Option, Some, None, refl, sym, ap, subst, ◌∙◌, add-one, arith, if◌then◌else◌}
use Rattle.std.specs.Prelude.{bytes_eq, option_map}
use Rattle.std.proofs.lemmas.Slice.Eq.{bytes_eq-Decides}
use Rattle.pddl_terms.specs.declared.names.Name.{Name}
use Rattle.name_table.specs.Tables.{place_in}
use Rattle.pddl_types.specs.WellFormed.{AreDistinct, Stands, texts_of}
use Rattle.static_facts.specs.Atoms.{text_at}

-- what stands at the place of a name has the name
pub named_there : (text : List ℕ) (ns : List Name) (i : ℕ) → place_in text ns ≡ Some i → text_at ns i ≡ text
named_there text [] i h = cc
named_there text (n ∷ ns) i h = cases (bytes_eq text n.text) refl (place_in text ns) refl (λ j p. named_there text ns j p) i h
  where
    cases : (test : Bool) → bytes_eq text n.text ≡ test → (place : Option ℕ) → place_in text ns ≡ place → ((j : ℕ) → place_in text ns ≡ Some j → text_at ns j ≡ text) → (i : ℕ)
        → (if test then Some 0 else option_map (λ j. j + 1) place) ≡ Some i → text_at (n ∷ ns) i ≡ text
    cases true t place p rec zero e = sym ((bytes_eq-Decides text n.text).0 t)
    cases true t place p rec (suc i) e = cc
    cases false t None p rec i e = cc
    cases false t (Some j) p rec zero e = let bad : j + 1 ≡ 0 = cc in absurd (omega (arith, bad))
    cases false t (Some j) p rec (suc i) e =
        let same : j + 1 ≡ suc i = cc in
        let there : j ≡ i = omega (arith, same) in
        ap (text_at ns) (sym there) ∙ rec j p

-- the text at a number stands among the texts, if it isn't empty
stands_at : (ns : List Name) (i : ℕ) (b : ℕ) (bs : List ℕ) → text_at ns i ≡ b ∷ bs → Stands (b ∷ bs) (texts_of ns)
stands_at [] i b bs h = cc
stands_at (n ∷ ns) zero b bs h = inl (sym h)
stands_at (n ∷ ns) (suc i) b bs h = inr (stands_at ns i b bs h)

-- the place of a name that stands at a number is the number
pub placed_there : (ns : List Name) → AreDistinct (texts_of ns) → (i : ℕ) (b : ℕ) (bs : List ℕ) → text_at ns i ≡ b ∷ bs → place_in (b ∷ bs) ns ≡ Some i
placed_there [] d i b bs h = cc
placed_there (n ∷ ns) d zero b bs h = ap (λ (t : Bool). if t then Some 0 else option_map (λ j. j + 1) (place_in (b ∷ bs) ns)) ((bytes_eq-Decides (b ∷ bs) n.text).1 (sym h))
placed_there (n ∷ ns) d (suc i) b bs h = cases (bytes_eq (b ∷ bs) n.text) refl (placed_there ns d.1 i b bs h)
  where
    cases : (test : Bool) → bytes_eq (b ∷ bs) n.text ≡ test → place_in (b ∷ bs) ns ≡ Some i → place_in (b ∷ bs) (n ∷ ns) ≡ Some (suc i)
    cases true t rest =
        let same : b ∷ bs ≡ n.text = (bytes_eq-Decides (b ∷ bs) n.text).0 t in
        absurd (d.0 (subst (λ u. Stands u (texts_of ns)) same (stands_at ns i b bs h)))
    cases false t rest =
        ap (λ (u : Bool). if u then Some 0 else option_map (λ j. j + 1) (place_in (b ∷ bs) ns)) t
        ∙ ap (option_map (λ j. j + 1)) rest
        ∙ ap Some (add-one i)
