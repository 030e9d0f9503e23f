use Rattle.std.proofs.Common.{◌≡◌, ◌∷◌, ◌++◌, [], ℕ, List, OnOk, codes, sym, subst}
use Rattle.pair_text.specs.declared.refusals.Reason.{Reason}
use Rattle.pair_text.specs.Lines.{reason_words, spaced}
use Rattle.pair_text.proofs.write.append_reason.Goals as goal

pub returns-in-Unsupported-clause-ok : goal.returns-in-Unsupported-clause-ok
returns-in-Unsupported-clause-ok c =
    let named = subst (λ (name : List ℕ). OnOk c.append_named.result (c.append_named.new.out ≡ c.args.out.now ++ spaced (codes "UNSUPPORTED" ∷ name ∷ []))) c.as_slice.ensures c.append_named.ensures.ok in
    subst (λ (r : Reason). OnOk c.append_named.result (c.append_named.new.out ≡ c.args.out.now ++ spaced (reason_words r))) (sym c.in-Unsupported.is) named
