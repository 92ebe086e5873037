-- A vector of measured expressions, which stands in one as a row, has the plain forms of its items.
use Rattle.std.proofs.Common.{◌≡◌, ℕ, Bool, List, refl, sym, ap, subst, ◌∙◌}
use Rattle.std.specs.declared.alloc.Global.{Global}
use Rattle.std.specs.declared.vec.Vec.{Vec}
use Rattle.sv_num.specs.declared.faults.Fault.{Fault}
use Rattle.sv_elab_rules.specs.Walks.{Steps}
use Rattle.sv_width.specs.declared.measured.Measured.{Measured, Row_of-Measured, end_of-Measured}
use Rattle.sv_width.specs.declared.measured.Measured.{more_of-Measured, items-the_row-Measured}
use Rattle.sv_width.specs.declared.measured.Measured.{items_hidden-the_row-Measured-0}
use Rattle.sv_width.specs.declared.measured.Measured.TheBlock.{hidden-the_row-Measured-0}
use Rattle.sv_width.specs.Answers.{IsBreach}
use Rattle.sv_width.specs.Measured.{MeasuredTrees, more_parts}
use Rattle.sv_width.specs.Pushed.{divisors_of, divisors_in}
use Rattle.sv_width.specs.Views.{measured_tree, measured_trees, row_parts, parts_of}

row_parts-items : (n : _) (row : Row_of-Measured n) →
    row_parts row ≡ parts_of (measured_trees (items-the_row-Measured n row))
row_parts-items _ end_of-Measured = refl
row_parts-items _ (more_of-Measured e row) =
    ap (more_parts (measured_tree e)) (row_parts-items _ row)

-- the parts of a join or replication are those of its vector, in order
pub row_parts-hidden : (v : Vec Measured Global) →
    row_parts (hidden-the_row-Measured-0 v) ≡ parts_of (measured_trees v.items)
row_parts-hidden v =
    row_parts-items _ (hidden-the_row-Measured-0 v)
    ∙ ap (λ es. parts_of (measured_trees es)) (items_hidden-the_row-Measured-0 v)

-- the parts that stand in it are those of the list that a reference to them leads to
pub row_at : (v : Vec Measured Global) (es : List Measured) → es ≡ v.items
    → parts_of (measured_trees es) ≡ row_parts (hidden-the_row-Measured-0 v)
row_at v es listed =
    ap (λ xs. parts_of (measured_trees xs)) listed ∙ sym (row_parts-hidden v)

-- what refuses the parts of an expression refuses the expression
pub parts_refused : (e whole : Measured) (n : ℕ) (s : Bool) (v : Vec Measured Global)
    (es : List Measured) (f : Fault)
    → e ≡ whole
    → divisors_of (measured_tree whole) n s
    ≡ divisors_in (row_parts (hidden-the_row-Measured-0 v))
    → es ≡ v.items
    → IsBreach (divisors_in (parts_of (measured_trees es))).end f
    → IsBreach (divisors_of (measured_tree e) n s).end f
parts_refused e whole n s v es f is inside listed h =
    subst (λ (x : Measured). IsBreach (divisors_of (measured_tree x) n s).end f) (sym is)
    (subst (λ (w : Steps). IsBreach w.end f) (sym inside)
    (subst (λ (ts : MeasuredTrees). IsBreach (divisors_in ts).end f) (row_at v es listed) h))
