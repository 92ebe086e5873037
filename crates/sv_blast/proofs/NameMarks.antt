-- The signals that some expressions name are those that a concatenation of them names.
use Rattle.std.proofs.Common.{◌≡◌, ℕ, ◌||◌, ◌==◌, List, [], ◌∷◌, refl, sym, ap, ◌∙◌}
use Rattle.std.specs.List.{list_any}
use Rattle.sv_flat.specs.Design.{TypedTree}
use Rattle.sv_flat.specs.Readings.{ReadForm, reads, parts_reads, names_signal}
use Rattle.sv_flat.specs.Views.{parts_of}
use Rattle.sv_graph.proofs.MarkFacts.{any_append}
use Rattle.sv_blast.specs.NamedMarks.{is_named_in}

pub all_named : (es : List TypedTree) (s : ℕ) →
    is_named_in es s ≡ list_any (λ (r : ReadForm). r.signal == s) (parts_reads [] (parts_of es))
all_named [] s = refl
all_named (e ∷ es) s =
    ap (λ b. names_signal [] e s || b) (all_named es s)
    ∙ sym (any_append (λ (r : ReadForm). r.signal == s) (reads [] e) (parts_reads [] (parts_of es)))
