-- Short words for the designs of the examples.
use Rattle.std.proofs.Common.{◌≡◌, ℕ, true, false, List, [], ◌∷◌, subst, arith}
use Rattle.std.specs.Prelude.{codes, IsTrue, IsFalse}
use Rattle.sv_num.specs.declared.faults.Place.{Place}
use Rattle.sv_num.specs.declared.operators.UnOp.TheVariants as unop
use Rattle.sv_system.specs.System.{Environment}
use Rattle.sv_lattice.specs.declared.labels.Label.TheVariants.{Point}
use Rattle.sv_flat.specs.declared.signals.SigKind.{SigKind}
use Rattle.sv_flat.specs.declared.signals.SigKind.TheVariants.{TopInput, Output, Net}
use Rattle.sv_flat.specs.Design.{SignalForm, TypedTree, typed, read, unary, PieceForm}
use Rattle.sv_flat.specs.Design.{FlatStatement, nothing, after, assign, ProcessKind, continuous}
use Rattle.sv_flat.specs.Design.{ProcessForm, FlatDesign}
use Rattle.sv_flat.specs.Schedules.{after_rounds, is_quiet, IsRoundCount}

abbrev pub at : (line column : ℕ) → Place
at l c = record { line = l; column = c }

-- an unsigned signal, with the least point as its label
abbrev pub declares : (name : List ℕ) → (width : ℕ) → SigKind → Place → SignalForm
declares n w k p =
    record {
      name = n;
      width = w;
      signed = false;
      kind = k;
      label = Point (record { 0 = 0 });
      place = p;
    }

abbrev pub part : (signal : ℕ) → Place → (high low from : ℕ) → PieceForm
part s p h l f = record { signal = s; place = p; high = h; low = l; from = f }

-- a signal of one bit as the target of a blocking or nonblocking assignment
abbrev pub sets : (signal : ℕ) → Place → TypedTree → FlatStatement
sets s p e = assign (part s p 0 0 0 ∷ []) p true e

abbrev pub later : (signal : ℕ) → Place → TypedTree → FlatStatement
later s p e = assign (part s p 0 0 0 ∷ []) p false e

-- the name of a signal of one bit
abbrev pub named : (signal : ℕ) → Place → TypedTree
named s p = typed 1 false (read s p)

abbrev pub sequence : List FlatStatement → FlatStatement
sequence [] = nothing
sequence (s ∷ ss) = after s (sequence ss)

abbrev pub process : ProcessKind → Place → FlatStatement → ProcessForm
process k p b = record { place = p; kind = k; body = b }

-- a design over the points L and H
abbrev pub over_two_points : List SignalForm → List ProcessForm → FlatDesign
over_two_points ss ps = record {
  signals = ss;
  processes = ps;
  lattice = 3 ∷ 2 ∷ [];
  points = (76 ∷ []) ∷ (72 ∷ [])
      ∷ [];
  maps = [];
  invariants = [];
}

abbrev pub invert : TypedTree → TypedTree
invert e = typed 1 false (unary unop.Invert e)

-- module m(input a, output y); wire p, q; assign y = ~q; assign q = ~p; assign p = ~a; endmodule
abbrev pub inverters : FlatDesign
inverters = over_two_points
    (declares (codes "a") 1 TopInput (at 1 16) ∷ declares (codes "y") 1 Output (at 1 26) ∷
    declares (codes "p") 1 Net (at 2 8)
    ∷ declares (codes "q") 1 Net (at 2 11) ∷ [])
    (process continuous (at 3 10) (sets 1 (at 3 10) (invert (named 3 (at 3 15))))
    ∷ process continuous (at 4 10) (sets 3 (at 4 10) (invert (named 2 (at 4 15))))
    ∷ process continuous (at 5 10) (sets 2 (at 5 10) (invert (named 0 (at 5 15))))
    ∷ [])

-- ---- rounds

-- one round is enough where it leaves all quiet
pub one_is_enough : (design : FlatDesign) (number : ℕ) (e : Environment ℕ)
    → IsTrue (is_quiet design (after_rounds design number 1 e)) → IsRoundCount design number e 1
one_is_enough design number e quiet =
    record { some = omega arith; quiet = quiet; before = λ k a b. absurd (omega (arith, a, b)) }

-- and two where one is not
pub two_are_enough : (design : FlatDesign) (number : ℕ) (e : Environment ℕ)
    → IsFalse (is_quiet design (after_rounds design number 1 e))
    → IsTrue (is_quiet design (after_rounds design number 2 e)) → IsRoundCount design number e 2
two_are_enough design number e unquiet quiet = record {
  some = omega arith;
  quiet = quiet;
  before = λ k a b. let is : 1 ≡ k = omega (arith, a, b) in
      subst (λ n. IsFalse (is_quiet design (after_rounds design number n e))) is unquiet;
}
