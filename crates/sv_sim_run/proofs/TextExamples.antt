-- Texts that `sim` writes of a small design, and what stands in them, by computation.
use Rattle.std.proofs.Common.{◌≡◌, ℕ, false, ◌^◌, ◌<◌, nat_lt, List, [], ◌∷◌, ◌++◌}
use Rattle.std.proofs.Common.{Option, Some, None, codes, refl, ltb-true}
use Rattle.std.specs.Prelude.{if◌then◌else◌, slice_index, All, IsTrue}
use Rattle.std.specs.Fmt.{digits}
use Rattle.std.specs.List.{list_all}
use Rattle.std.proofs.lemmas.Bool.{cond-true}
use Rattle.std.proofs.lemmas.List.Elements.{All-nil, All-cons}
use Rattle.sv_lattice.specs.declared.points.Point.{Point}
use Rattle.sv_lattice.specs.declared.labels.Label.TheVariants.{Point as Declared, Table}
use Rattle.sv_system.specs.System.{Environment, Settled}
use Rattle.sv_flat.specs.declared.signals.SigKind.TheVariants.{TopInput, OutputReg}
use Rattle.sv_flat.specs.ByNumber.{by_number}
use Rattle.sv_flat.specs.Design.{typed, read, assign, nothing, branch}
use Rattle.sv_flat.specs.Design.{clocked, FlatDesign}
use Rattle.sv_flat.specs.FlatSystem.{flat_system}
use Rattle.sv_flat.specs.Processes.{is_register}
use Rattle.sv_flat.specs.SignalLists.{system_signals}
use Rattle.sv_flat.specs.Values.{signal_width}
use Rattle.sv_flat.proofs.Depths.{first_of, second_of}
use Rattle.sv_flat.proofs.Forms.{at, declares, part, later, named, sequence, process}
use Rattle.sv_flat.proofs.Forms.{over_two_points}
use Rattle.sv_trace.specs.Forms.{StimForm, form_of, name_in}
use Rattle.sv_num.specs.Rules.{rules}
use Rattle.sv_sim_run.specs.declared.endings.Ending.TheVariants.{Done, NoLevel}
use Rattle.sv_sim_run.specs.Simulated.{read_of}
use Rattle.sv_sim_run.specs.Simulated.{IsSimulated}
use Rattle.sv_sim_run.specs.Traces.{form_in, shown_in, line_in, lines_from}

-- every listed signal fits
pub fitting : (design : FlatDesign) (e : Environment ℕ) (ss : List ℕ)
    → IsTrue (list_all (λ s. nat_lt (e s) (2 ^ signal_width design.signals s)) ss)
    → All (λ s. e s < 2 ^ signal_width design.signals s) ss
fitting design e [] fits = All-nil (λ s. e s < 2 ^ signal_width design.signals s)
fitting design e (s ∷ ss) fits = All-cons (λ s. e s < 2 ^ signal_width design.signals s) s ss
    (ltb-true (e s) (2 ^ signal_width design.signals s) (first_of _ _ fits))
    (fitting design e ss (second_of _ _ fits))

-- ---- a register that a level sees in some cycles

-- labelmap D [0:0] 0: L; default: H; endlabelmap
-- module m(input clk, input nxt, input [7:0] {H} k, output reg owner,
--   output reg [7:0] {D(owner)} r);
--   always @(posedge clk) begin owner <= nxt; if (nxt) r <= k; end endmodule
abbrev held : FlatDesign
held = record (over_two_points (
    declares (codes "clk") 1 TopInput (at 2 16) ∷ declares (codes "nxt") 1 TopInput (at 2 27) ∷
    record (declares (codes "k") 8 TopInput (at 2 48)) { label = Declared (record { 0 = 1 }) }
    ∷ declares (codes "owner") 1 OutputReg (at 2 62) ∷
    record (declares (codes "r") 8 OutputReg (at 3 31)) { label = Table 0 3 None } ∷ [])
    (process (clocked 0) (at 4 3) (sequence (later 3 (at 4 29) (named 1 (at 4 38))
    ∷ branch (at 4 43) (named 1 (at 4 47)) (assign (part 4 (at 4 52) 7 0 0 ∷ []) (at 4 52) false
    (typed 8 false (read 2 (at 4 57)))) nothing ∷ [])) ∷ [])) {
      maps =
          record { first = 1; second = None; rows = record { 0 = 0 } ∷ record { 0 = 1 } ∷ [] } ∷ [];
    }

-- the point with this number
abbrev level : ℕ → Option Point
level p = Some (record { 0 = p })

-- the clock is no input, and no register
abbrev its_form : StimForm
its_form = record {
  header = codes "inputs nxt k";
  inputs = 1 ∷ 8 ∷ [];
  registers = record { name = codes "owner"; width = 1 } ∷ record { name = codes "r"; width = 8 }
      ∷ [];
}

form_by_numbers : form_of held ≡ its_form
form_by_numbers = refl

form_by_names : form_in (name_in held.signals) (flat_system held) ≡ its_form
form_by_names = refl

-- the registers have what the clock edge makes of the cycle before, and clk, nxt and k these values
abbrev next_cycle : Environment ℕ → (given : List ℕ) → Environment ℕ
next_cycle before given s =
    if is_register held s then (flat_system held).next before s else slice_index given s

abbrev cycle_0 : Environment ℕ
cycle_0 = by_number (0 ∷ 0 ∷ 1 ∷ 1 ∷ 18 ∷ [])

abbrev cycle_1 : Environment ℕ
cycle_1 = next_cycle cycle_0 (0 ∷ 1 ∷ 2 ∷ [])

abbrev cycle_2 : Environment ℕ
cycle_2 = next_cycle cycle_1 (0 ∷ 0 ∷ 3 ∷ [])

abbrev cycle_3 : Environment ℕ
cycle_3 = next_cycle cycle_2 (0 ∷ 1 ∷ 4 ∷ [])

-- where owner is 1, the level L sees neither k nor r
low_sees : shown_in (flat_system held) (level 0) cycle_0 ≡ (1, 0) ∷ (3, 1) ∷ []
low_sees = refl

-- the level H sees all signals; no line has the clock
high_line : line_in (name_in held.signals) (flat_system held) (level 1) 12 cycle_0
    ≡ codes "12 nxt=0 k=1 owner=1 r=12\n"
unfolding digits
high_line = refl

-- without a level all signals are shown, in each cycle
all_lines : lines_from (name_in held.signals) (flat_system held) None 0
    (cycle_0 ∷ cycle_1 ∷ cycle_2 ∷ cycle_3 ∷ [])
    ≡ codes "0 nxt=0 k=1 owner=1 r=12\n1 nxt=1 k=2 owner=0 r=12\n"
    ++ codes "2 nxt=0 k=3 owner=1 r=2\n3 nxt=1 k=4 owner=0 r=2\n"
unfolding digits
all_lines = refl

-- a cycle is settled where its values fit
runs_on : (before : Environment ℕ) (given : List ℕ)
    → IsTrue (list_all (λ s. nat_lt (next_cycle before given s)
    (2 ^ signal_width held.signals s)) (system_signals held))
    → Settled (flat_system held) ((flat_system held).next before) (next_cycle before given)
    (next_cycle before given)
runs_on before given fits = record {
  registers = λ s is. cond-true (is_register held s) _ _ is;
  inputs_are = λ s is. refl;
  fits = fitting held (next_cycle before given) (system_signals held) fits;
  still = All-nil _;
}

-- the worked text of a register whose label falls, as the level L sees it
low_text : IsSimulated held (Some (codes "L")) None
    (codes "start owner 1\nstart r 12\ninputs nxt k\n0 1\n1 2\n0 3\n1 4\n") Done
    (codes "0 nxt=0 owner=1\n1 nxt=1 owner=0 r=12\n2 nxt=0 owner=1\n3 nxt=1 owner=0 r=2\n")
unfolding digits
low_text = (
  None,
  record {
    read = read_of (form_in (name_in held.signals) (flat_system held))
        (codes "start owner 1\nstart r 12\ninputs nxt k\n0 1\n1 2\n0 3\n1 4\n");
    is_read = refl;
    trace = cycle_0 ∷ cycle_1 ∷ cycle_2 ∷ cycle_3 ∷ [];
    traces = record {
      state = cycle_0;
      inputs = cycle_0 ∷ cycle_1 ∷ cycle_2 ∷ cycle_3 ∷ [];
      started = refl;
      given = refl;
      follows = (
        record {
          registers = λ s is. refl;
          inputs_are = λ s is. refl;
          fits = fitting held cycle_0 (system_signals held) refl;
          still = All-nil _;
        },
        (
          runs_on cycle_0 (0 ∷ 1 ∷ 2 ∷ []) refl,
          (
            runs_on cycle_1 (0 ∷ 0 ∷ 3 ∷ []) refl,
            (runs_on cycle_2 (0 ∷ 1 ∷ 4 ∷ []) refl, tt),
          ),
        ),
      );
    };
    ended = refl;
    prints = refl;
  },
  refl,
)

-- a level that is no point is refused, whatever the stimulus
no_level : IsSimulated held (Some (codes "X")) None (codes "zz") NoLevel
    (codes "refused 707 level\n")
unfolding digits rules
no_level = (refl, refl)
