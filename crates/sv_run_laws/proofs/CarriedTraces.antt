-- Where the traces of a system are traces of another, with environments of the other, and make the
-- same lines, what is written of the one is written of the other.
use Rattle.std.proofs.Common.{◌≡◌, ℕ, ◌+◌, List, [], ◌∷◌, ◌++◌, map, Option, refl, sym, ap, ap₂}
use Rattle.std.proofs.Common.{subst, ◌∙◌}
use Rattle.sv_system.specs.System.{System, Environment, Fits, IsTrace}
use Rattle.sv_trace.specs.Stimulus.{start_of, cycles_of}
use Rattle.sv_sim_run.specs.declared.endings.Ending.{Ending}
use Rattle.sv_sim_run.specs.Simulated.{read_of, last_line, IsTraceText}
use Rattle.sv_sim_run.specs.Traces.{form_in, IsTraceFrom, line_in, lines_from}

module _ {Signal Point Other OtherPoint : Type 0} (first : System Signal Point)
    (second : System Other OtherPoint) (name : Signal → List ℕ) (other_name : Other → List ℕ)
    (to : Environment Signal → Environment Other) (level : Option Point)
    (other : Option OtherPoint)
    (alike : (cycle : ℕ) (e : Environment Signal) → Fits first e
    → line_in other_name second other cycle (to e) ≡ line_in name first level cycle e) where
  pub lines_carried : (inputs es : List (Environment Signal)) (state : Environment Signal)
      → IsTrace first state inputs es → (cycle : ℕ)
      → lines_from other_name second other cycle (map to es) ≡ lines_from name first level cycle es
  lines_carried [] [] state trace cycle = refl
  lines_carried [] (e ∷ es) state trace cycle = absurd trace
  lines_carried (now ∷ more) [] state trace cycle = absurd trace
  lines_carried (now ∷ more) (e ∷ es) state trace cycle =
      ap₂ (λ y ys. y ++ ys) (alike cycle e trace.0.fits)
      (lines_carried more es (first.next e) trace.1 (cycle + 1))

  pub simulation_carried : form_in name first ≡ form_in other_name second
      → ((start : List ℕ) (cycles : List (List ℕ)) (es : List (Environment Signal))
      → IsTraceFrom first start cycles es → IsTraceFrom second start cycles (map to es))
      → (rounds : Option ℕ) (bytes : List ℕ) (ends : Ending) (printed : List ℕ)
      → (is : IsTraceText name first level rounds bytes ends printed)
      → (new : IsTraceText other_name second other rounds bytes ends printed)
      × (new.read ≡ is.read)
  simulation_carried forms traces rounds bytes ends printed is =
      let right = is.read.right in
      let trace = is.traces in (
        record {
          read = is.read;
          is_read = is.is_read ∙ ap (λ form. read_of form bytes) forms;
          trace = map to is.trace;
          traces =
              subst (λ form. IsTraceFrom second (start_of form right) (cycles_of right)
              (map to is.trace)) forms
              (traces (start_of (form_in name first) right) (cycles_of right) is.trace trace);
          ended = is.ended;
          prints =
              is.prints
              ∙ ap (λ t. t ++ last_line ends rounds)
              (sym (lines_carried trace.inputs is.trace trace.state trace.follows 0));
        },
        refl,
      )
