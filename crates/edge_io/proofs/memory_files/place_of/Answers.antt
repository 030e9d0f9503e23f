use Rattle.std.proofs.Common.{◌≡◌, ◌<◌, List, ℕ, ◌∷◌, true, length, drop, get_or, suc, Some, sym, ap, ◌∙◌, drop-cons, refl}
use Rattle.std.proofs.lemmas.Option.{slice_get_read}
use Rattle.std.specs.Str.{bytes_eq}
use Rattle.edge_io.specs.Folder.{Folder, bytes_at, bytes_named}
use Rattle.edge_io.proofs.memory_files.place_of.Goals as goal

-- the first file has that name
bytes_named-first : (file : List ℕ × List ℕ) (rest : Folder) (name : List ℕ) → bytes_eq file.0 name ≡ true → bytes_named (file ∷ rest) name ≡ Some file.1
bytes_named-first file rest name same = rw same refl

-- the file at i has that name
bytes_named-drop : (files : Folder) (i : ℕ) (file : List ℕ × List ℕ) (name : List ℕ) → i < length files → file ≡ get_or files i file → bytes_eq file.0 name ≡ true → bytes_named (drop i files) name ≡ Some (bytes_at files i)
bytes_named-drop files i file name inside is same =
    ap (λ fs. bytes_named fs name) (drop-cons files i file inside ∙ ap (λ f. f ∷ drop (suc i) files) (sym is))
    ∙ bytes_named-first file _ name same
    ∙ sym (rw (slice_get_read files _ i file refl inside is) refl)

pub returns-then-eq-clause-named : goal.returns-then-eq-clause-named
returns-then-eq-clause-named c =
    let same : bytes_eq c.index-files-i.result.0 c.args.name.now ≡ true = cc in
    sym c.files.invariant ∙ bytes_named-drop c.args.files.now c.files.i c.index-files-i.result c.args.name.now c.files-test.true c.index-files-i.is same
