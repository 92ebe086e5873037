-- Each register has the same value after the clock edge.
use Rattle.std.proofs.Common.{◌≡◌, ℕ, ◌<◌, Bool, true, false, cond, List, [], ◌∷◌, ◌++◌}
use Rattle.std.proofs.Common.{map, length, Option, refl, sym, ap, subst, ◌∙◌}
use Rattle.std.specs.Prelude.{not, ◌==◌, flat_map, filter, Contains, IsTrue}
use Rattle.std.specs.List.{list_any, AllZip}
use Rattle.std.proofs.lemmas.Bool.{and_left, ltb-true}
use Rattle.std.proofs.lemmas.List.{map-append}
use Rattle.sv_system.specs.System.{Environment, last_update}
use Rattle.sv_system.proofs.Lists.{Contains-head, Contains-later}
use Rattle.sv_system.proofs.Lists.{Contains-from_map}
use Rattle.sv_ast.specs.Tree.{StatementTree, TextTree}
use Rattle.sv_ast.specs.Instances.{is_signal}
use Rattle.sv_ast.specs.Runs.{run as source_run}
use Rattle.sv_ast.specs.Parts.{Path, same_path, Part, within, parts, signal_path}
use Rattle.sv_ast.specs.Parts.{PortLink}
use Rattle.sv_ast.specs.Processes.{Process, combinational, clocked, linking, processes, values_in}
use Rattle.sv_ast.specs.Processes.{updates_by, updates_of, links_one_of}
use Rattle.sv_flat.specs.Design.{ProcessForm, FlatDesign}
use Rattle.sv_flat.specs.Assigned.{assigns}
use Rattle.sv_flat.specs.Admission.{IsAdmitted}
use Rattle.sv_flat.specs.Soundness.{sound}
use Rattle.sv_flat.specs.Runs.{Updates, updates_of as flat_updates_of}
use Rattle.sv_flat.specs.Processes.{is_clocked}
use Rattle.sv_flat.specs.Clocks.{is_port_in, is_clock_link, clocks, processes_of}
use Rattle.sv_flat.specs.FlatSystem.{clocked_processes, all_updates, flat_system}
use Rattle.sv_flat.proofs.LeastSets.{Contains-from_filter}
use Rattle.sv_flat.proofs.AdmittedFacts.{is_process}
use Rattle.sv_ast.specs.TextSystem.{text_clocks}
use Rattle.sv_elab_laws.specs.SameStates.{by_number}
use Rattle.sv_elab_laws.proofs.PartsLists.{zip_right, contains_get}
use Rattle.sv_elab_laws.proofs.PartsMaps.{map_twice_same}
use Rattle.sv_elab_laws.proofs.PartsGrown.{IsBody, IsFlat, number_of_name}
use Rattle.sv_flat.proofs.Members.{from_flat_map}
use Rattle.sv_elab_laws.proofs.PartsTexts.{SideBySide, sources_of}
use Rattle.sv_elab_laws.proofs.JoinedClocks.{IsNumber, number_below, clocked_no_link}
use Rattle.sv_elab_laws.proofs.JoinedNumbers.{to_is, At, at_number, flat_signals, signal_below}
use Rattle.sv_elab_laws.proofs.JoinedNumbers.{is_flat_signal, clocked_of}
use Rattle.sv_elab_laws.proofs.JoinedRegisters.{register_within}
use Rattle.sv_elab_laws.proofs.JoinedRuns.{source_system, path_to, Joins, unclocked_values}
use Rattle.sv_elab_laws.proofs.JoinedRuns.{numbered_values, numbered_same}
use Rattle.sv_elab_laws.proofs.JoinedRuns.{numbering, have_values, values_fit, to_name}
use Rattle.sv_elab_laws.proofs.JoinedProcesses.{same_place, link_unclocked}
use Rattle.sv_flat.proofs.AlikeUpdates.{flat_map_same, updates_hang}
use Rattle.sv_elab_laws.proofs.StatementsSame.{body_same}

clocked_test : ProcessForm → Bool
clocked_test p = is_clocked p.kind

pub skip_flat : (f : ProcessForm) (b : Bool) (fs : List ProcessForm) → is_clocked f.kind ≡ false
    → filter (λ (p : ProcessForm). is_clocked p.kind) (cond b (f ∷ fs) fs) ≡
    filter (λ (p : ProcessForm). is_clocked p.kind) fs
skip_flat f true fs h =
    ap (λ c. cond c (f ∷ filter (λ (p : ProcessForm). is_clocked p.kind) fs)
    (filter (λ (p : ProcessForm). is_clocked p.kind) fs)) h
skip_flat f false fs h = refl

pub keep_flat : (f : ProcessForm) (b : Bool) (fs : List ProcessForm) → b ≡ true
    → is_clocked f.kind ≡ true
    → filter (λ (p : ProcessForm). is_clocked p.kind) (cond b (f ∷ fs) fs) ≡
    f ∷ filter (λ (p : ProcessForm). is_clocked p.kind) fs
keep_flat f b fs kept h =
    ap (λ c. filter (λ (p : ProcessForm). is_clocked p.kind) (cond c (f ∷ fs) fs)) kept
    ∙ ap (λ c. cond c (f ∷ filter (λ (p : ProcessForm). is_clocked p.kind) fs)
    (filter (λ (p : ProcessForm). is_clocked p.kind) fs)) h

skip_link : (g : Environment Path) (l : PortLink) (b : Bool) (qs : List Process)
    → flat_map (updates_of g) (cond b (linking l ∷ qs) qs) ≡ flat_map (updates_of g) qs
skip_link g l true qs = refl
skip_link g l false qs = refl

module _ (text : TextTree) (top : Option (List ℕ)) (design : FlatDesign)
    (side : SideBySide text top design)
    (is_sound : IsTrue (sound design)) (admitted : IsAdmitted design) where
  abbrev toward : ℕ → Path
  toward = path_to text top design side

  abbrev Flat : Process → ProcessForm → Type 0
  Flat q f = IsFlat side.tables (sources_of text top) (parts text top) q f

  abbrev Given : ℕ → Type 0
  Given k = Contains (flat_signals text top design side) k

  -- the updates of a clocked process do not hang on clocks
  pub updates_alike : (f : ProcessForm) → Contains (processes_of design) f → (d e : Environment ℕ)
      → ((k : ℕ) → Given k → d k ≡ e k)
      → flat_updates_of design.signals f.body d ≡ flat_updates_of design.signals f.body e
  updates_alike =
      updates_hang design is_sound admitted Given (λ s inside no_clock.
      is_flat_signal text top design side s (ltb-true s (length design.signals) inside) no_clock)

  all_alike : (d e : Environment ℕ) → ((k : ℕ) → Given k → d k ≡ e k)
      → all_updates design (clocked_processes design) d ≡
      all_updates design (clocked_processes design) e
  all_alike d e same = flat_map_same (λ (p : ProcessForm). flat_updates_of design.signals p.body d)
      (λ (p : ProcessForm). flat_updates_of design.signals p.body e) (clocked_processes design)
      (λ p at. updates_alike p (Contains-from_filter (λ (z : ProcessForm).
      is_clocked z.kind) (processes_of design) p at).1 d e same)

  abbrev pathed : ℕ × ℕ → Path × ℕ
  pathed u = (toward u.0, u.1)

  module _ (e : Environment ℕ) (g : Environment Path) (agree : Joins text top design side e g) where
    abbrev free : Environment Path
    free = unclocked_values text top design side g

    abbrev numbers : Environment ℕ
    numbers = numbered_values text top design side g

    module _ (p : Part) (s : StatementTree) (f : ProcessForm)
        (body : IsBody side.tables (sources_of text top) (parts text top) p s f) where
      abbrev source_updates : List (List ℕ × ℕ)
      source_updates =
          (source_run body.names.scope s (record {
            environment = values_in p free;
            updates = [];
          })).updates

      numbered_updates : flat_updates_of design.signals f.body numbers ≡
          map (by_number body.names) source_updates
      numbered_updates =
          let after = body_same body.names design.signals
          (numbering text top design side p body.names body.named) s f.body body.walked
          body.fits
          (values_in p free) numbers (have_values text top design side p body.names body.named g)
          (values_fit text top design side p body.names body.named e g agree) in after.1

      update_signal : (u : List ℕ × ℕ) → Contains source_updates u →
          IsTrue (is_signal (body.names.scope u.0))
      update_signal u at =
          let after = body_same body.names design.signals
          (numbering text top design side p body.names body.named) s f.body body.walked
          body.fits
          (values_in p free) numbers (have_values text top design side p body.names body.named g)
          (values_fit text top design side p body.names body.named e g agree) in (after.3 u at).0

      pub same_updates : map pathed (flat_updates_of design.signals f.body numbers) ≡
          updates_by p s free
      same_updates =
          ap (map pathed) numbered_updates
          ∙ map_twice_same (by_number body.names) pathed (λ u. (within p u.0, u.1)) source_updates
          (λ u at. ap (λ (x : Path).
          (x, u.1)) (to_name text top design side p body.names body.named u.0
          (update_signal u at)))
          ∙ ap (λ sc. map (λ (u : List ℕ × ℕ).
          (within p u.0, u.1))
          (source_run sc s (record { environment = values_in p free; updates = [] })).updates)
          body.named.scope

      pub update_below : (u : ℕ × ℕ) → Contains (flat_updates_of design.signals f.body numbers) u →
          u.0 < length design.signals
      update_below u at =
          let v = Contains-from_map (by_number body.names) source_updates u
          (subst (λ us. Contains us u) numbered_updates at) in
          let n = v.0.0 in
          subst (λ k. k < length design.signals) (ap (λ (z : ℕ × ℕ). z.0) v.2)
          (number_below text top design side (within p n) (body.names.number n)
          (number_of_name side.tables (sources_of text top) (parts text top) p body.names body.named
          n (update_signal v.0 v.1)))

    flat_of : List ProcessForm → Updates
    flat_of fs = flat_map (λ (p : ProcessForm). flat_updates_of design.signals p.body numbers)
        (filter (λ (p : ProcessForm).
        is_clocked p.kind) (filter (λ p. not (is_clock_link design p)) fs))

    source_of : List Process → List (Path × ℕ)
    source_of qs =
        flat_map (updates_of free) (filter (λ p. not (links_one_of (text_clocks text top) p)) qs)

    all_updates_same : (qs : List Process) (fs : List ProcessForm) → AllZip Flat qs fs →
        map pathed (flat_of fs) ≡ source_of qs
    unfolding flat_of source_of
    all_updates_same [] [] h = refl
    all_updates_same [] (f ∷ fs) h = absurd h
    all_updates_same (q ∷ qs) [] h = absurd h
    all_updates_same (combinational p s ∷ qs) (f ∷ fs) h =
        ap (λ xs. map pathed (flat_map (λ (z : ProcessForm).
        flat_updates_of design.signals z.body numbers) xs))
        (skip_flat f (not (is_clock_link design f))
        (filter (λ z. not (is_clock_link design z)) fs) h.0.1)
        ∙ all_updates_same qs fs h.1
    all_updates_same (linking l ∷ qs) (f ∷ fs) h =
        ap (λ xs. map pathed (flat_map (λ (z : ProcessForm).
        flat_updates_of design.signals z.body numbers) xs))
        (skip_flat f (not (is_clock_link design f)) (filter (λ z. not (is_clock_link design z)) fs)
        (link_unclocked text top design side is_sound admitted l f h.0))
        ∙ all_updates_same qs fs h.1
        ∙ sym (skip_link free l (not (links_one_of (text_clocks text top) (linking l)))
        (filter (λ p. not (links_one_of (text_clocks text top) p)) qs))
    all_updates_same (clocked p s ∷ qs) (f ∷ fs) h =
        let rest = filter (λ (z : ProcessForm).
        is_clocked z.kind) (filter (λ z. not (is_clock_link design z)) fs) in
        let updates = λ (z : ProcessForm). flat_updates_of design.signals z.body numbers in
        ap (λ xs. map pathed (flat_map updates xs))
        (keep_flat f (not (is_clock_link design f)) (filter (λ z. not (is_clock_link design z)) fs)
        (ap not (and_left (is_port_in f.kind) (list_any (assigns f.body) (clocks design))
        (clocked_no_link f.kind h.0.1).0)) h.0.1)
        ∙ map-append pathed (updates f) (flat_map updates rest)
        ∙ ap (λ us. us ++ map pathed (flat_map updates rest)) (same_updates p s f h.0.0)
        ∙ ap (λ us. updates_by p s free ++ us) (all_updates_same qs fs h.1)

    updates_below : (u : ℕ × ℕ) →
        Contains (all_updates design (clocked_processes design) numbers) u →
        u.0 < length design.signals
    updates_below u at =
        let f = from_flat_map (λ (p : ProcessForm).
        flat_updates_of design.signals p.body numbers) (clocked_processes design) u at in
        let kept = Contains-from_filter (λ (z : ProcessForm).
        is_clocked z.kind) (processes_of design) f.0 f.1 in
        let place = contains_get design.processes f.0
        (is_process design is_sound admitted f.0 kept.1) in
        let q = zip_right Flat (processes text top) design.processes side.bodies place.0 f.0
        place.1 in
        let c = clocked_of text top design side q.0 f.0 q.2 kept.0 in
        update_below c.0 c.1 f.0 c.3 u f.2

    pub last_same : (us : Updates) → ((u : ℕ × ℕ) → Contains us u → u.0 < length design.signals)
        → (k : ℕ) → At text top design side k → (old : ℕ)
        → last_update ◌==◌ k old us ≡ last_update same_path (toward k) old (map pathed us)
    last_same [] below k a old = refl
    last_same (u ∷ us) below k a old =
        let here = at_number text top design side u.0 (below u (Contains-head u us)) in
        let path = to_is text top design side (signal_path here.source) u.0 here.number in
        let number = subst (λ x. IsNumber text top design side x u.0) (sym path) here.number in
        ap (λ b. last_update ◌==◌ k (cond b u.1 old) us)
        (same_place text top design side is_sound admitted (toward u.0) u.0
        number k a)
        ∙ last_same us (λ v at.
        below v (Contains-later u us v at)) k a
        (cond (same_path (toward u.0) (toward k)) u.1 old)

    pub next_same : (k : ℕ) → IsTrue ((flat_system design).is_register k) →
        (flat_system design).next e k ≡
        (source_system text top design side).next g (toward k)
    unfolding flat_of source_of
    next_same k register =
        let inside = register_within text top design side is_sound admitted k register in
        let a = at_number text top design side k (signal_below text top design side k inside) in
        ap (λ v. last_update ◌==◌ k v (all_updates design (clocked_processes design) e))
        (numbered_same text top design side e g agree k inside)
        ∙ ap (last_update ◌==◌ k (numbers k)) (all_alike e numbers (λ t t_in.
        numbered_same text top design side e g agree t t_in))
        ∙ last_same (all_updates design (clocked_processes design) numbers) updates_below k a
        (numbers k)
        ∙ ap (last_update same_path (toward k) (numbers k))
        (all_updates_same (processes text top) design.processes side.bodies)
