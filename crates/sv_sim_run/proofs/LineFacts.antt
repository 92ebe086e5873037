-- The line of a cycle and the lines of a trace, as they are put.
use Rattle.std.proofs.Common.{◌≡◌, ℕ, ◌+◌, ◌<◌, ◌^◌, List, [], ◌∷◌, ◌++◌, length, map, refl, sym}
use Rattle.std.proofs.Common.{ap}
use Rattle.std.proofs.Common.{subst, ◌∙◌, append-nil, append_assoc, Option, Some, None, arith}
use Rattle.std.specs.Prelude.{slice_index}
use Rattle.std.proofs.lemmas.List.{length-map, get_or-map}
use Rattle.sv_io.specs.Sink.{WritesFront}
use Rattle.sv_lattice.specs.declared.points.Point.{Point}
use Rattle.sv_system.specs.System.{Environment, Fits}
use Rattle.sv_flat.specs.Design.{FlatDesign}
use Rattle.sv_flat.specs.FlatSystem.{flat_system}
use Rattle.sv_flat.specs.SignalLists.{system_signals}
use Rattle.sv_flat.specs.Values.{signal_width}
use Rattle.sv_flat.specs.Given.{FitListed}
use Rattle.sv_trace.specs.Forms.{name_in}
use Rattle.sv_trace.specs.Traces.{trace_line}
use Rattle.sv_sim_run.specs.Runs.{PutsFront, lines_of}
use Rattle.sv_sim_run.specs.Traces.{line_in}
use Rattle.sv_sim_run.proofs.MoreCycles.{lines_more}

-- the line of a cycle is that of the design's system
pub line_is : (design : FlatDesign) (level : Option Point) (cycle : ℕ) (e : Environment ℕ)
    → trace_line design cycle level e
    ≡ line_in (name_in design.signals) (flat_system design) level cycle e
line_is design None cycle e = refl
line_is design (Some level) cycle e = refl

-- the values of an environment that fits are one for each signal, of its width
pub seen_fit : (design : FlatDesign) (e : Environment ℕ) → Fits (flat_system design) e
    → FitListed design.signals (system_signals design) (map e (system_signals design))
seen_fit design e fits = record {
  count = length-map (system_signals design) e;
  each = λ k inside.
      subst (λ v. v < 2 ^ signal_width design.signals (slice_index (system_signals design) k))
      (sym (get_or-map e (system_signals design) k 0 0 inside))
      (fits k 0 inside);
}

-- ---- what was accepted

module _ (text old waiting : List ℕ) (before : List ℕ) (held : PutsFront before text old waiting)
  where
    -- all of the text and more of it
    whole_more : (line : List ℕ) → text ++ line ≡ held.front ++ (waiting ++ line)
    whole_more line =
        ap (λ x. x ++ line) held.whole ∙ append_assoc held.front waiting line

    -- a line more was put behind what waits
    pub put_more : (line new rest : List ℕ) → PutsFront old (waiting ++ line) new rest →
        PutsFront before (text ++ line) new rest
    put_more line new rest put = record {
      front = held.front ++ put.front;
      whole = whole_more line ∙ ap (λ x. held.front ++ x) put.whole
          ∙ sym (append_assoc held.front put.front rest);
      accepted = put.accepted ∙ ap (λ x. x ++ put.front) held.accepted
          ∙ append_assoc before held.front put.front;
    }

    -- or a front of that
    pub front_more : (line new : List ℕ) → WritesFront old (waiting ++ line) new →
        WritesFront before (text ++ line) new
    front_more line new wrote = record {
      front = held.front ++ wrote.front;
      rest = wrote.rest;
      whole = whole_more line ∙ ap (λ x. held.front ++ x) wrote.whole
          ∙ sym (append_assoc held.front wrote.front wrote.rest);
      accepted = wrote.accepted ∙ ap (λ x. x ++ wrote.front) held.accepted
          ∙ append_assoc before held.front wrote.front;
    }

    -- or nothing of it
    pub front_held : (line : List ℕ) → WritesFront before (text ++ line) old
    front_held line = record {
      front = held.front;
      rest = waiting ++ line;
      whole = whole_more line;
      accepted = held.accepted;
    }

    -- what waits was put
    pub put_rest : (new : List ℕ) → new ≡ old ++ waiting → PutsFront before text new []
    put_rest new is = record {
      front = text;
      whole = sym (append-nil text);
      accepted = is ∙ ap (λ x. x ++ waiting) held.accepted
          ∙ append_assoc before held.front waiting
          ∙ ap (λ x. before ++ x) (sym held.whole);
    }

    -- or a front of that
    pub front_rest : (new : List ℕ) → WritesFront old waiting new → WritesFront before text new
    front_rest new wrote = record {
      front = held.front ++ wrote.front;
      rest = wrote.rest;
      whole = held.whole ∙ ap (λ x. held.front ++ x) wrote.whole
          ∙ sym (append_assoc held.front wrote.front wrote.rest);
      accepted = wrote.accepted ∙ ap (λ x. x ++ wrote.front) held.accepted
          ∙ append_assoc before held.front wrote.front;
    }

    pub front_now : WritesFront before text old
    front_now = record {
      front = held.front;
      rest = waiting;
      whole = held.whole;
      accepted = held.accepted;
    }

-- the lines of a trace with one more environment
pub lines_with : (design : FlatDesign) (level : Option Point) (trace : List (Environment ℕ))
    (e : Environment ℕ) (cycle : ℕ) (line : List ℕ) → cycle ≡ length trace
    → line ≡ trace_line design cycle level e
    → lines_of design level (trace ++ e ∷ []) ≡ lines_of design level trace ++ line
lines_with design level trace e cycle line number is =
    lines_more (flat_system design) (name_in design.signals) level 0 trace e
    ∙ ap (λ x. lines_of design level trace ++ x)
    (ap (λ k. line_in (name_in design.signals) (flat_system design) level k e)
    (zero_more (length trace) ∙ sym number)
    ∙ sym (is ∙ line_is design level cycle e))
  where
    zero_more : (n : ℕ) → 0 + n ≡ n
    zero_more n = omega arith
