-- The brackets that are open while a text is read.
use Rattle.std.specs.Prelude.{ℕ, zero, suc, ◌+◌, ◌==◌, List, [], ◌∷◌, ◌++◌, Option, Some, None, flat_map, length, if◌then◌else◌}
use Rattle.sexp_text.specs.declared.marks.Mark.{Mark}
use Rattle.sexp_text.specs.declared.marks.Mark.TheVariants as marks
use Rattle.sexp_text.specs.declared.marks.Marked.{Marked}
use Rattle.sexp_text.specs.declared.trees.SexpFault.{SexpFault}
use Rattle.sexp_text.specs.declared.trees.SexpFault.TheVariants as faults
use Rattle.sexp_text.specs.declared.reading.Outer.{Outer}
use Rattle.sexp_text.specs.declared.reading.Reading.{Reading}
use Rattle.sexp_text.specs.Trees.{marked, marks_of_all, MarkFault}

-- the trees before an open bracket, and the bracket
abbrev pub outer_marks : Outer → List Marked
outer_marks o = marks_of_all o.trees.items ++ marked marks.Opening o.bracket (o.bracket + 1) ∷ []

-- all marks that were read
abbrev pub marks_read : Reading → List Marked
marks_read r = flat_map outer_marks r.outer.items ++ marks_of_all r.trees.items

abbrev pub depth_of : Reading → ℕ
depth_of r = length r.outer.items

-- how many brackets are open behind a mark, where it is no fault
abbrev pub depth_after : Mark → ℕ → Option ℕ
depth_after marks.Opening depth = if depth == 64 then None else Some (depth + 1)
depth_after marks.Closing zero = None
depth_after marks.Closing (suc depth) = Some depth
depth_after marks.Leaf depth = Some depth

-- why a mark was not taken
abbrev pub IsRefusal : Marked → ℕ → SexpFault → Type 0
IsRefusal m depth (faults.Unclosed position) = MarkFault m.mark depth m.span.from (faults.Unclosed position)
IsRefusal m depth (faults.Stray position) = MarkFault m.mark depth m.span.from (faults.Stray position)
IsRefusal m depth (faults.BadByte position) = MarkFault m.mark depth m.span.from (faults.BadByte position)
IsRefusal m depth (faults.TooDeep position) = MarkFault m.mark depth m.span.from (faults.TooDeep position)
IsRefusal m depth faults.NoMemory = Unit {0}

-- where the outermost open bracket stands
abbrev pub outermost : List Outer → Option ℕ
outermost [] = None
outermost (o ∷ os) = Some o.bracket
