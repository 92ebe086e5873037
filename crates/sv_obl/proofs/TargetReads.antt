-- What a path of a target reads is among the signals read for the target; and where two
-- environments agree on it, the path holds in both or in none, and its result has one value.
use Rattle.std.proofs.Common.{◌≡◌, ℕ, ◌<◌, Bool, true, ◌==◌, not, ltb-true, List, length, ◌⊎◌}
use Rattle.std.proofs.Common.{inl, inr, [], ◌∷◌, ◌&&◌, ⊎_elim, refl, sym, ap, subst, ◌∙◌}
use Rattle.std.specs.Prelude.{Contains, IsTrue, IsFalse}
use Rattle.std.specs.List.{list_any}
use Rattle.std.proofs.lemmas.Bool.{false≢true, or_left, or_right, eqb-true, eq-eqb}
use Rattle.sv_system.specs.System.{Environment}
use Rattle.sv_system.proofs.Lists.{Contains-nil, Contains-cases, Contains-from_map}
use Rattle.sv_flat.specs.Design.{TypedTree, ProcessKind, continuous, port_in, port_out}
use Rattle.sv_flat.specs.Design.{combinational, clocked, release, ProcessForm, FlatDesign}
use Rattle.sv_flat.specs.Values.{value}
use Rattle.sv_flat.specs.Soundness.{sound}
use Rattle.sv_flat.specs.Assigned.{assigns}
use Rattle.sv_flat.specs.Readings.{ReadForm, reads, Reading, no_bits, names_signal, is_followed}
use Rattle.sv_flat.specs.Processes.{is_clocked, is_block, signals_that}
use Rattle.sv_flat.specs.Clocks.{is_clock, processes_of}
use Rattle.sv_flat.specs.Reads.{is_earlier, wants, followed, is_read_for, depth}
use Rattle.sv_flat.specs.Reads.{process_readings}
use Rattle.sv_flat.specs.FlatSystem.{flat_system}
use Rattle.sv_flat.specs.Admission.{IsAdmitted}
use Rattle.sv_flat.proofs.LeastSets.{or_cases, some_from, from_some, in_those, those_below}
use Rattle.sv_flat.proofs.LeastSets.{those_pass, either_way, least_set_least}
use Rattle.sv_flat.proofs.Depths.{first_of, reads_are_lower}
use Rattle.sv_flat.proofs.ReadSignals.{readings_signals}
use Rattle.sv_flat.proofs.AdmittedFacts.{body_is_sound, assigned_is_signal, assigns_no_clock}
use Rattle.sv_flat.proofs.AdmittedFacts.{targets_are_combinational}
use Rattle.sv_flat.proofs.BlockFacts.{follows_itself, follows_earlier, follows_targets}
use Rattle.sv_flat.proofs.BlockFacts.{settled_is_read}
use Rattle.sv_flat.proofs.ClockFacts.{reads_no_clock}
use Rattle.sv_obl.specs.Wanted.{marked, closed_tree}
use Rattle.sv_obl.specs.Paths.{StepForm, Path, step_with, open_path, before, closed, paths}
use Rattle.sv_obl.specs.Paths.{path_names}
use Rattle.sv_obl.proofs.Closing.{closed_held, closed_names}
use Rattle.sv_obl.proofs.PathNames.{Fine, PathFine, paths_fine, open_fine}
use Rattle.sv_obl.proofs.PathRuns.{steps_hold, same_steps, Held, Tidy}
use Rattle.sv_obl.proofs.PathTells.{stays_tidy}
use Rattle.sv_obl.proofs.TreeFacts.{same_names}

pub clocked_is_no_block : (k : ProcessKind) → IsTrue (is_clocked k) → IsFalse (is_block k)
clocked_is_no_block (clocked clock) h = refl
clocked_is_no_block continuous h = refl
clocked_is_no_block port_in h = refl
clocked_is_no_block port_out h = refl
clocked_is_no_block combinational h = absurd (false≢true h)
clocked_is_no_block (release point) h = refl

-- the signals that a path reads, in order
abbrev pub reads_of : FlatDesign → Path → List ℕ
reads_of design q = signals_that design (path_names design.signals q)

-- a target of a process that has no earlier value follows itself alone
pub follows_alone : (design : FlatDesign) (p : ProcessForm) (s : ℕ) → s < length design.signals →
    ((r : Reading) → Contains (process_readings design p) r → IsFalse (is_earlier design p r)) →
    (u : ℕ) → Contains (followed design p s) u → s ≡ u
follows_alone design p s inside none u u_at =
    least_set_least (length design.signals) (wants design p) (s ∷ [])
    (λ k k_at. ⊎_elim (λ same. subst (λ z. z < length design.signals) same inside)
    (λ later. absurd (Contains-nil k later)) (Contains-cases s [] k k_at))
    (λ k. s ≡ k)
    (λ k k_at. ⊎_elim (λ same. same) (λ later. absurd (Contains-nil k later))
    (Contains-cases s [] k k_at))
    (λ m k is brings low.
    let found = from_some (λ (r : Reading).
    is_earlier design p r && r.serves m && (r.name.signal == k))
    (process_readings design p) brings in
    let r = found.0 in
    absurd (false≢true (sym (none r found.1)
    ∙ first_of (is_earlier design p r) (r.serves m)
    (first_of (is_earlier design p r && r.serves m) (r.name.signal == k) found.2))))
    u u_at

module _ (design : FlatDesign) (is_sound : IsTrue (sound design)) (admitted : IsAdmitted design)
    (p : ProcessForm) (s : ℕ)
    (at : Contains (processes_of design) p) (assigned : IsTrue (assigns p.body s)) where
  -- a name in the process that is read for the target
  abbrev pub Served : ℕ → Type 0
  Served t =
      (r : Reading) × Contains (process_readings design p) r
      × IsTrue (is_read_for design s r.name.signal) × (r.name.signal ≡ t)

  -- what the target follows
  abbrev pub Member : ℕ → Type 0
  Member u = Contains (followed design p s) u

  pub inside : s < length design.signals
  inside = ltb-true s (length design.signals)
      (assigned_is_signal design.signals p.body (body_is_sound design is_sound admitted p at) s
      assigned)

  pub itself : Member s
  itself = follows_itself design is_sound admitted p at s assigned

  pub member_inside : (u : ℕ) → Member u → u < length design.signals
  member_inside u u_at = ltb-true u (length design.signals)
      (assigned_is_signal design.signals p.body (body_is_sound design is_sound admitted p at) u
      (follows_targets design is_sound admitted p at s assigned u u_at))

  -- a target that no block assigns follows itself alone
  pub only_itself : IsFalse (is_block p.kind) → (u : ℕ) → Member u → s ≡ u
  only_itself no_block u u_at =
      follows_alone design p s inside
      (λ r r_at. ap (λ c. c && is_followed design.signals r) no_block) u u_at

  pub clocked_alone : (u : ℕ) → Member u → IsTrue (is_clocked p.kind) → s ≡ u
  clocked_alone u u_at clock = only_itself (clocked_is_no_block p.kind clock) u u_at

  -- a read for what the target follows is settled and read for the target, or an earlier one of
  -- what the target follows
  pub serves_target : (r : Reading) → Contains (process_readings design p) r → (u : ℕ) → Member u
      → IsTrue (r.serves u)
      → (IsFalse (is_earlier design p r) × Served r.name.signal)
      ⊎ (IsTrue (is_earlier design p r) × Member r.name.signal)
  serves_target r r_at u u_at served = ⊎_elim
      (λ earlier. inr (
        earlier,
        follows_earlier design is_sound admitted p at s assigned u u_at r r_at served earlier,
      ))
      (λ late. inl (
        late,
        (
          r,
          r_at,
          settled_is_read design is_sound admitted p at s assigned u u_at r r_at served late,
          refl,
        ),
      ))
      (either_way (is_earlier design p r))

  abbrev pub IsFine : Path → Type 0
  IsFine m = PathFine design.signals (is_block p.kind) s Served Member m

  -- the paths of the target name what is read for it, and what it follows
  pub target_fine : (m : Path)
      → Contains (before design.signals s (marked design.signals (is_block p.kind) p.body no_bits)
      (open_path design.signals s)) m → IsFine m
  target_fine m m_at =
      paths_fine design.signals (is_block p.kind) s Served Member p.body no_bits no_bits
      (open_path design.signals s) m (body_is_sound design is_sound admitted p at) serves_target
      (open_fine design.signals (is_block p.kind) s Served Member itself) m_at

  -- where a path of the target comes from, before its wanted names were closed
  pub record Origin (q : Path) : Type 0 where
    pub unclosed : Path
    pub among : Contains
        (before design.signals s (marked design.signals (is_block p.kind) p.body no_bits)
        (open_path design.signals s)) unclosed
    pub fine : IsFine unclosed
    pub tidy : Tidy design.signals unclosed
    pub is : closed design.signals (is_clocked p.kind) unclosed ≡ q

  pub open_tidy : Tidy design.signals (open_path design.signals s)
  open_tidy = ((λ step none. absurd (Contains-nil step none)), refl)

  pub origin : (q : Path) → Contains (paths design.signals s p.kind p.body) q → Origin q
  origin q q_at =
      let body = p.body in
      let sound_body = body_is_sound design is_sound admitted p at in
      let from = Contains-from_map (closed design.signals (is_clocked p.kind))
      (before design.signals s (marked design.signals (is_block p.kind) body no_bits)
      (open_path design.signals s)) q q_at in
      record {
        unclosed = from.0;
        among = from.1;
        fine = target_fine from.0 from.1;
        tidy =
            stays_tidy design.signals (is_block p.kind) true s (λ t.
            0) body no_bits (open_path design.signals s) from.0 sound_body open_tidy from.1;
        is = from.2;
      }

  -- ---- reads

  -- a closed expression
  abbrev closed_one : TypedTree → TypedTree
  closed_one t = closed_tree design.signals (is_clocked p.kind) t

  abbrev IsRead : ℕ → Type 0
  IsRead t = Served t ⊎ (IsTrue (is_clocked p.kind) × (s ≡ t))

  names_of_closed : (t : TypedTree) → Fine design.signals (is_block p.kind) s Served Member t
      → (r : ReadForm)
      → Contains (reads design.signals (closed_one t)) r → IsRead r.signal
  names_of_closed t fine r r_at =
      closed_names design.signals (is_block p.kind) (is_clocked p.kind) s Served Member
      member_inside clocked_alone t fine r r_at

  abbrev steps_name : Path → ℕ → Bool
  steps_name q t =
      list_any (λ (step : StepForm). names_signal design.signals step.condition t) q.steps

  abbrev closed_path : Path → Path
  closed_path m = closed design.signals (is_clocked p.kind) m

  closed_cases : (m : Path) → IsFine m → (t : ℕ) →
      IsTrue (path_names design.signals (closed_path m) t) → IsRead t
  closed_cases m fine t named =
      let q = closed_path m in
      ⊎_elim
      (λ l.
      let step = from_some (λ (x : StepForm).
      names_signal design.signals x.condition t) q.steps l in
      let from = Contains-from_map (step_with closed_one) m.steps step.0 step.1 in
      let read = from_some (λ (r : ReadForm).
      r.signal == t) (reads design.signals (step.0).condition) step.2 in
      subst IsRead (eqb-true (read.0).signal t read.2)
      (names_of_closed (from.0).condition (fine.0 from.0 from.1) read.0
      (subst (λ (x : StepForm). Contains (reads design.signals x.condition) read.0) (sym from.2)
      read.1)))
      (λ r.
      let read = from_some (λ (z : ReadForm). z.signal == t) (reads design.signals q.result) r in
      subst IsRead (eqb-true (read.0).signal t read.2)
      (names_of_closed m.result fine.1 read.0 read.1))
      (or_cases (steps_name q t) (names_signal design.signals q.result t) named)

  -- what a path reads is read for the target, or is the register that is kept
  pub read_cases : (q : Path) → Origin q → (t : ℕ) → Contains (reads_of design q) t
      → Served t ⊎ (IsTrue (is_clocked p.kind) × (s ≡ t))
  read_cases q o t t_at = closed_cases o.unclosed o.fine t
      (subst (λ (x : Path). IsTrue (path_names design.signals x t)) (sym o.is)
      (those_pass (length design.signals) (path_names design.signals q) t t_at))

  pub in_system : (t : ℕ) → t < length design.signals → IsFalse (is_clock design t) →
      Contains (flat_system design).signals t
  in_system t below no_clock =
      in_those (length design.signals) (λ z. not (is_clock design z)) t below (ap not no_clock)

  -- what a path reads is a signal and no clock
  pub read_is_seen : (q : Path) → Origin q → (t : ℕ) → Contains (reads_of design q) t →
      Contains (flat_system design).signals t
  read_is_seen q o t t_at =
      in_system t (those_below (length design.signals) (path_names design.signals q) t t_at) (⊎_elim
      (λ served. reads_no_clock design is_sound admitted p t at
      (some_from (λ (r : Reading). r.name.signal == t) (process_readings design p) served.0 served.1
      (eq-eqb (served.0).name.signal t served.3)))
      (λ kept. subst (λ z.
      IsFalse (is_clock design z)) kept.1
      (assigns_no_clock design is_sound admitted p s at assigned))
      (read_cases q o t t_at))

  -- and lies lower than a target that waits for no clock
  pub read_is_lower : IsFalse (is_clocked p.kind) → (q : Path) → Origin q → (t : ℕ)
      → Contains (reads_of design q) t → depth design t < depth design s
  read_is_lower unclocked q o t t_at = ⊎_elim
      (λ served. subst (λ z. depth design z < depth design s) served.3
      (reads_are_lower design admitted.ordered s (served.0).name.signal
      (targets_are_combinational design is_sound admitted p s at unclocked assigned)
      (ltb-true (served.0).name.signal (length design.signals)
      (readings_signals design.signals p.body no_bits no_bits
      (body_is_sound design is_sound admitted p at) served.0 served.1))
      served.2))
      (λ kept. absurd (false≢true (sym unclocked ∙ kept.0)))
      (read_cases q o t t_at)

  -- ---- agreement

  read_below : (t : ℕ) → IsRead t → t < length design.signals
  read_below t read = ⊎_elim
      (λ served. subst (λ z.
      z < length design.signals) served.3
      (ltb-true (served.0).name.signal (length design.signals)
      (readings_signals design.signals p.body no_bits no_bits
      (body_is_sound design is_sound admitted p at) served.0 served.1)))
      (λ kept. subst (λ z. z < length design.signals) kept.1 inside)
      read

  module _ (m : Path) (fine : IsFine m) (tidy : Tidy design.signals m) (e f : Environment ℕ)
      (same : (t : ℕ) → Contains (reads_of design (closed_path m)) t → e t ≡ f t) where
    abbrev q : Path
    q = closed_path m

    tree_same : (t : TypedTree) → Held design.signals t
        → Fine design.signals (is_block p.kind) s Served Member t
        → ((x : ℕ) → IsTrue (names_signal design.signals (closed_one t) x)
        → IsTrue (path_names design.signals q x))
        → value design.signals e (closed_one t) ≡ value design.signals f (closed_one t)
    tree_same t held fine_t named =
        same_names design.signals (length design.signals) e f (closed_one t)
        (closed_held design.signals (is_block p.kind) (is_clocked p.kind) s Served Member
        member_inside clocked_alone t held fine_t)
        (λ r r_at. same r.signal
        (in_those (length design.signals) (path_names design.signals q) r.signal
        (read_below r.signal (names_of_closed t fine_t r r_at))
        (named r.signal (some_from (λ (z : ReadForm).
        z.signal == r.signal) (reads design.signals (closed_one t)) r r_at
        (eq-eqb r.signal r.signal refl)))))

    closed_steps_same : steps_hold design.signals e q.steps ≡ steps_hold design.signals f q.steps
    closed_steps_same = same_steps design.signals design.signals e f q.steps (λ step step_at.
        let from = Contains-from_map (step_with closed_one) m.steps step step_at in
        subst (λ (x : StepForm).
        value design.signals e x.condition ≡ value design.signals f x.condition) from.2
        (tree_same (from.0).condition (tidy.0 from.0 from.1) (fine.0 from.0 from.1) (λ x named.
        or_left (steps_name q x) (names_signal design.signals q.result x)
        (some_from (λ (z : StepForm).
        names_signal design.signals z.condition x) q.steps step step_at
        (subst (λ (z : StepForm). IsTrue (names_signal design.signals z.condition x)) from.2
        named)))))

    closed_result_same : value design.signals e q.result ≡ value design.signals f q.result
    closed_result_same =
        tree_same m.result tidy.1 fine.1 (λ x named.
        or_right (steps_name q x) (names_signal design.signals q.result x) named)

  both_same : (q : Path) → Origin q → (e f : Environment ℕ)
      → ((t : ℕ) → Contains (reads_of design q) t → e t ≡ f t)
      → (steps_hold design.signals e q.steps ≡ steps_hold design.signals f q.steps)
      × (value design.signals e q.result ≡ value design.signals f q.result)
  both_same q o e f same =
      subst (λ (x : Path). ((t : ℕ) → Contains (reads_of design x) t → e t ≡ f t)
      → (steps_hold design.signals e x.steps ≡ steps_hold design.signals f x.steps)
      × (value design.signals e x.result ≡ value design.signals f x.result)) o.is
      (λ agree. (
        closed_steps_same o.unclosed o.fine o.tidy e f agree,
        closed_result_same o.unclosed o.fine o.tidy e f agree,
      )) same

  -- the path holds in both or in none
  pub steps_same : (q : Path) → Origin q → (e f : Environment ℕ)
      → ((t : ℕ) → Contains (reads_of design q) t → e t ≡ f t)
      → steps_hold design.signals e q.steps ≡ steps_hold design.signals f q.steps
  steps_same q o e f same = (both_same q o e f same).0

  -- and its result has one value
  pub result_same : (q : Path) → Origin q → (e f : Environment ℕ)
      → ((t : ℕ) → Contains (reads_of design q) t → e t ≡ f t)
      → value design.signals e q.result ≡ value design.signals f q.result
  result_same q o e f same = (both_same q o e f same).1
