-- One more of the files that are read.
use Rattle.std.proofs.Common.{◌≡◌, ◌<◌, ℕ, ◌+◌, List, [], ◌∷◌, ◌++◌, length, take, get_or, Option, sym, subst, ap, ◌∙◌}
use Rattle.std.specs.List.{AllZip}
use Rattle.std.proofs.lemmas.List.{take_more}
use Rattle.std.proofs.lemmas.Slice.Zip.{all_zipped_more}
use Rattle.edge_io.specs.Folder.{Folder}
use Rattle.whole_files.specs.Gathered.{AreTexts, IsText}
use Rattle.whole_files.specs.declared.wanted.Wanted.{Wanted}

-- the texts of the files before a place, and of the one there
pub more_texts : (told : Option Folder) (files : List Wanted) (k : ℕ) (file : Wanted) (texts more : List (List ℕ)) (text : List ℕ) → k < length files → file ≡ get_or files k file → AreTexts told (take k files) texts → IsText told file text → more ≡ texts ++ text ∷ [] → AreTexts told (take (k + 1) files) more
more_texts told files k file texts more text lt is before here same =
    subst (AreTexts told (take (k + 1) files)) (sym same)
    (
    subst (λ (front : List Wanted). AllZip (IsText told) front (texts ++ text ∷ []))
    (ap (λ (x : Wanted). take k files ++ x ∷ []) is ∙ sym (take_more files k file lt))
    (all_zipped_more (IsText told) (take k files) texts file text before here)
    )
