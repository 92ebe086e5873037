-- What a statement reads, by its readings.
use Rattle.std.proofs.Common.{◌≡◌, ℕ, Bool, ◌||◌, ◌==◌, List, ◌++◌}
use Rattle.std.proofs.Common.{refl, ap₂, ◌∙◌}
use Rattle.std.specs.List.{list_any}
use Rattle.sv_flat.specs.Assigned.{can_assign, always_assigns, assigns}
use Rattle.sv_flat.specs.Clocks.{reads_signal}
use Rattle.sv_flat.specs.Design.{SignalForm, TypedTree, FlatStatement, nothing, after, assign}
use Rattle.sv_flat.specs.Design.{branch}
use Rattle.sv_flat.specs.Readings.{ReadForm, reads, BitSet, no_bits, either, Reading, readings}
use Rattle.sv_flat.specs.Readings.{readings_of}
use Rattle.sv_rules.specs.ReadMarks.{reads_in}
use Rattle.sv_graph.proofs.MarkFacts.{any_append, any_map}

-- some reading of two statements, one after the other, passes a test where one of either does
pub any_after : (signals : List SignalForm) (test : Reading → Bool) (first second : FlatStatement)
    (a f : BitSet) {x y : Bool}
    → list_any test (readings signals first a (either (can_assign second) f)) ≡ x
    → list_any test (readings signals second (either (always_assigns first) a) f) ≡ y
    → list_any test (readings signals (after first second) a f) ≡ (x || y)
any_after signals test first second a f one two =
    any_append test (readings signals first a (either (can_assign second) f))
    (readings signals second (either (always_assigns first) a) f)
    ∙ ap₂ ◌||◌ one two

module _ (signals : List SignalForm) (s : ℕ) where
  abbrev is_of : Reading → Bool
  is_of r = r.name.signal == s

  named : (e : TypedTree) (serves : ℕ → Bool) (a f : BitSet)
      → list_any is_of (readings_of signals e serves a f) ≡ list_any (λ (r : ReadForm).
      r.signal == s) (reads signals e)
  named e serves a f =
      any_map is_of (λ r. record { name = r; serves = serves; assigned = a; follows = f })
      (reads signals e)

  read_in : (body : FlatStatement) (a f : BitSet) →
      list_any is_of (readings signals body a f) ≡ reads_in signals body s
  read_in nothing a f = refl
  read_in (after first second) a f =
      any_after signals is_of first second a f (read_in first a (either (can_assign second) f))
      (read_in second (either (always_assigns first) a) f)
  read_in (assign pieces place blocking right) a f =
      let whole = assign pieces place blocking right in
      named right (assigns whole) a (either (can_assign whole) f)
  read_in (branch place condition first second) a f =
      let whole = branch place condition first second in
      let conds = readings_of signals condition (assigns whole) a (either (can_assign whole) f) in
      any_append is_of (conds ++ readings signals first a f) (readings signals second a f)
      ∙ ap₂ ◌||◌
      (any_append is_of conds (readings signals first a f)
      ∙ ap₂ ◌||◌ (named condition (assigns whole) a (either (can_assign whole) f))
      (read_in first a f))
      (read_in second a f)

  pub reads_signal-is : (body : FlatStatement) →
      reads_signal signals body s ≡ reads_in signals body s
  reads_signal-is body = read_in body no_bits no_bits
