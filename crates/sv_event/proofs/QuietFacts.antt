-- No run would change anything exactly where all processes, run one after the other, change
-- nothing: what one has changed no later one takes back, since no signal has two processes.
use mathlib.Core.Path.{fun_ext}
use Rattle.std.proofs.Common.{◌≡◌, ℕ, ◌≤◌, Bool, true, false, cond, not, ◌==◌}
use Rattle.std.proofs.Common.{List, [], ◌∷◌, ◌++◌, length, ⊎_elim, None, refl, sym, ap, subst}
use Rattle.std.proofs.Common.{◌∙◌, append_assoc, arith}
use Rattle.std.specs.Prelude.{Contains, IsTrue, IsFalse, filter, slice_get}
use Rattle.std.specs.List.{list_all}
use Rattle.std.proofs.lemmas.Bool.{eqb-true, eq-eqb, false≢true}
use Rattle.sv_system.specs.System.{Environment, Run}
use Rattle.sv_system.proofs.Lists.{Contains-head, Contains-later, Contains-nil, Contains-map}
use Rattle.sv_system.proofs.Lists.{Contains-from_map, Contains-cases}
use Rattle.sv_system.proofs.Runs.{cut_at}
use Rattle.sv_flat.specs.Design.{ProcessForm, FlatDesign}
use Rattle.sv_flat.specs.Admission.{IsAdmitted}
use Rattle.sv_flat.specs.Assigned.{assigns}
use Rattle.sv_flat.specs.Clocks.{processes_of}
use Rattle.sv_flat.specs.FlatSystem.{flat_system, combinational_processes, run_of}
use Rattle.sv_flat.specs.Processes.{is_clocked, drivers}
use Rattle.sv_flat.specs.Schedules.{is_quiet}
use Rattle.sv_flat.specs.Soundness.{sound}
use Rattle.sv_flat.proofs.AdmittedFacts.{some_is_some, and_true, extra_at}
use Rattle.sv_flat.proofs.AdmittedFacts.{targets_are_combinational}
use Rattle.sv_flat.proofs.Depths.{from_all}
use Rattle.sv_flat.proofs.FlatScheduled.{in_processes, unclocked, parts_of, to_system}
use Rattle.sv_flat.proofs.LeastSets.{either_way}
use Rattle.sv_flat.proofs.Members.{Contains-right}
use Rattle.sv_flat.proofs.SameRuns.{run_leaves, none_found}
use Rattle.sv_sim.proofs.EdgeFacts.{two_pass}
use Rattle.sv_event.proofs.RunFacts.{after_processes}

-- ---- lists

module _ {X : Type 0} (test : X → Bool) where
  -- all elements pass a test where each does
  pub all_pass : (xs : List X) → ((x : X) → Contains xs x → IsTrue (test x)) →
      IsTrue (list_all test xs)
  all_pass [] each = refl
  all_pass (x ∷ xs) each = and_true (test x) (list_all test xs) (each x (Contains-head x xs))
      (all_pass xs (λ y at. each y (Contains-later x xs y at)))

  both_kept : (b : Bool) (x : X) (zs ws : List X) → length zs ≤ length ws →
      length (cond b (x ∷ zs) zs) ≤ length (cond b (x ∷ ws) ws)
  both_kept true x zs ws fewer = omega (arith, fewer)
  both_kept false x zs ws fewer = fewer

  one_kept : (b : Bool) (x : X) (n : ℕ) (ws : List X) → n ≤ length ws →
      n ≤ length (cond b (x ∷ ws) ws)
  one_kept true x n ws fewer = omega (arith, fewer)
  one_kept false x n ws fewer = fewer

  kept_fewer : (a : Bool) (x : X) (zs ws : List X) → length (filter test zs) ≤ length ws →
      length (filter test (cond a (x ∷ zs) zs)) ≤ length (cond (test x) (x ∷ ws) ws)
  kept_fewer true x zs ws fewer = both_kept (test x) x (filter test zs) ws fewer
  kept_fewer false x zs ws fewer = one_kept (test x) x (length (filter test zs)) ws fewer

  pub twice_fewer : (kept : X → Bool) (xs : List X) →
      length (filter test (filter kept xs)) ≤ length (filter test xs)
  twice_fewer kept [] = omega arith
  twice_fewer kept (x ∷ xs) =
      kept_fewer (kept x) x (filter kept xs) (filter test xs) (twice_fewer kept xs)

pub at_most_one : {X : Type 0} (xs : List X) → slice_get xs 1 ≡ None → length xs ≤ 1
at_most_one [] none = omega arith
at_most_one (x ∷ []) none = omega arith
at_most_one (x ∷ y ∷ xs) none = absurd (some_is_some y none)

pub no_second : {X : Type 0} (xs : List X) → length xs ≤ 1 → slice_get xs 1 ≡ None
no_second [] few = refl
no_second (x ∷ []) few = refl
no_second (x ∷ y ∷ xs) few = absurd (omega (arith, few))

module _ (design : FlatDesign) (is_sound : IsTrue (sound design))
    (admitted : IsAdmitted design) where
  abbrev combs : List ProcessForm
  combs = combinational_processes design

  abbrev LeavesAll : ProcessForm → Environment ℕ → Type 0
  LeavesAll p e = (s : ℕ) → run_of design p e s ≡ e s

  -- a signal has one combinational process
  one_comb : (p : ProcessForm) (s : ℕ) → Contains combs p → IsTrue (assigns p.body s) →
      slice_get (filter (λ (q : ProcessForm). assigns q.body s) combs) 1 ≡ None
  one_comb p s at assigned =
      let among = in_processes design is_sound admitted p at in
      let comb = targets_are_combinational design is_sound admitted p s among
      (unclocked design is_sound admitted p at) assigned in
      let parts = parts_of design is_sound admitted s comb in
      let test = λ (q : ProcessForm). assigns q.body s in
      let few = at_most_one (drivers (processes_of design) s)
      (extra_at design is_sound admitted false s parts.1 parts.0) in
      let fewer = twice_fewer test (λ (q : ProcessForm). not (is_clocked q.kind))
      (processes_of design) in
      no_second (filter test combs) (omega (arith, few, fewer))

  -- so a later process assigns none of what an earlier one does
  later_assigns_none : (before later : List ProcessForm) (q r : ProcessForm)
      → before ++ q ∷ later ≡ combs → Contains later r → (s : ℕ) → IsTrue (assigns q.body s)
      → IsFalse (assigns r.body s)
  later_assigns_none before later q r is r_at s assigned = none_found (assigns r.body s) (λ h.
      let cut = cut_at later r r_at in
      let all : (before ++ q ∷ cut.before) ++ r ∷ cut.after ≡ combs =
      append_assoc before (q ∷ cut.before) (r ∷ cut.after)
      ∙ ap (λ ls. before ++ q ∷ ls) (sym cut.is) ∙ is in
      let q_at = subst (λ ps. Contains ps q) is
      (Contains-right before (q ∷ later) q (Contains-head q later)) in
      two_pass (λ (z : ProcessForm). assigns z.body s) r h cut.after (before ++ q ∷ cut.before) q
      (Contains-right before (q ∷ cut.before) q (Contains-head q cut.before)) assigned
      (subst (λ ps. slice_get (filter (λ (z : ProcessForm). assigns z.body s) ps) 1 ≡ None)
      (sym all) (one_comb q s q_at assigned)))

  later_leaves : (ps : List ProcessForm) (s : ℕ) (e : Environment ℕ)
      → ((p : ProcessForm) → Contains ps p → IsFalse (assigns p.body s))
      → after_processes design ps e s ≡ e s
  later_leaves [] s e none = refl
  later_leaves (p ∷ ps) s e none =
      later_leaves ps s (run_of design p e) (λ q at. none q (Contains-later p ps q at))
      ∙ run_leaves design.signals p.body s (none p (Contains-head p ps)) (e, [])

  first_leaves : (before later : List ProcessForm) (p : ProcessForm) (e : Environment ℕ)
      → before ++ p ∷ later ≡ combs
      → ((s : ℕ) → after_processes design (p ∷ later) e s ≡ e s) → LeavesAll p e
  first_leaves before later p e is all s = ⊎_elim
      (λ assigned.
      sym (later_leaves later s (run_of design p e)
      (λ q at. later_assigns_none before later p q is at s assigned))
      ∙ all s)
      (λ none. run_leaves design.signals p.body s none (e, []))
      (either_way (assigns p.body s))

  -- where all together change nothing, none does
  each_leaves : (before later : List ProcessForm) (e : Environment ℕ) → before ++ later ≡ combs
      → ((s : ℕ) → after_processes design later e s ≡ e s)
      → (p : ProcessForm) → Contains later p → LeavesAll p e
  each_leaves before [] e is all p at = absurd (Contains-nil p at)
  each_leaves before (q ∷ later) e is all p at =
      let here = first_leaves before later q e is all in
      ⊎_elim
      (λ same. subst (λ (r : ProcessForm). LeavesAll r e) same here)
      (λ inside. each_leaves (before ++ q ∷ []) later e
      (append_assoc before (q ∷ []) later ∙ is)
      (λ s. ap (λ (f : Environment ℕ). after_processes design later f s) (sym (fun_ext here))
      ∙ all s)
      p inside)
      (Contains-cases q later p at)

  -- and the other way round
  all_leave : (ps : List ProcessForm) (e : Environment ℕ)
      → ((p : ProcessForm) → Contains ps p → LeavesAll p e) → after_processes design ps e ≡ e
  all_leave [] e each = refl
  all_leave (p ∷ ps) e each =
      ap (λ (f : Environment ℕ). after_processes design ps f)
      (fun_ext (each p (Contains-head p ps)))
      ∙ all_leave ps e (λ q at. each q (Contains-later p ps q at))

  -- ---- the test

  pub quiet_from : (e : Environment ℕ)
      → ((p : ProcessForm) → Contains combs p → LeavesAll p e) → IsTrue (is_quiet design e)
  quiet_from e each =
      all_pass (λ (run : Run ℕ). list_all (λ s. run e s == e s) (flat_system design).signals)
      (flat_system design).processes (λ run at.
      let from = Contains-from_map (run_of design) combs run at in
      subst (λ (r : Run ℕ). IsTrue (list_all (λ s. r e s == e s) (flat_system design).signals))
      from.2
      (all_pass (λ s. run_of design from.0 e s == e s) (flat_system design).signals
      (λ s seen. eq-eqb (run_of design from.0 e s) (e s) (each from.0 from.1 s))))

  pub from_quiet : (e : Environment ℕ) → IsTrue (is_quiet design e) → (p : ProcessForm) →
      Contains combs p → LeavesAll p e
  from_quiet e quiet p at s = ⊎_elim
      (λ assigned.
      let comb = targets_are_combinational design is_sound admitted p s
      (in_processes design is_sound admitted p at) (unclocked design is_sound admitted p at)
      assigned in
      eqb-true (run_of design p e s) (e s)
      (from_all (λ t. run_of design p e t == e t) (flat_system design).signals s
      (from_all (λ (run : Run ℕ). list_all (λ t. run e t == e t) (flat_system design).signals)
      (flat_system design).processes (run_of design p) quiet
      (Contains-map (run_of design) combs p at))
      (to_system design is_sound admitted s comb).among))
      (λ none. run_leaves design.signals p.body s none (e, []))
      (either_way (assigns p.body s))

  -- the test says whether all processes together change nothing
  pub quiet_is : (e after' : Environment ℕ) (same : Bool) → after' ≡ after_processes design combs e
      → (IsTrue same → after' ≡ e) → (after' ≡ e → IsTrue same) → same ≡ is_quiet design e
  quiet_is e after' true is one other =
      sym (quiet_from e (each_leaves [] combs e refl
      (λ s. ap (λ f. f s) (sym is ∙ one refl))))
  quiet_is e after' false is one other =
      sym (none_found (is_quiet design e) (λ quiet.
      false≢true (other (is ∙ all_leave combs e (from_quiet e quiet)))))
