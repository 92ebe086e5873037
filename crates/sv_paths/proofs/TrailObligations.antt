-- The obligations of a target through a process are those of its trails.
use Rattle.std.proofs.Common.{◌≡◌, ℕ, false, cond, nat_lt, min, List, []}
use Rattle.std.proofs.Common.{◌∷◌, length, map, Some, refl, sym, ap, ap₂, ◌∙◌, arith}
use Rattle.std.proofs.Common.{◌<◌, ◌==◌, not, reverse, All, ⊎_elim, subst}
use Rattle.std.specs.Prelude.{Contains}
use Rattle.std.specs.List.{list_any}
use Rattle.std.proofs.lemmas.Bool.Decides.{nat_tests}
use Rattle.sv_system.proofs.Lists.{Contains-nil, Contains-cases}
use Rattle.sv_flat.specs.Design.{SignalForm, FlatStatement, ProcessForm, FlatDesign}
use Rattle.sv_flat.specs.Processes.{is_clocked, is_block}
use Rattle.sv_flat.specs.Readings.{no_bits}
use Rattle.sv_flat.specs.Sets.{those}
use Rattle.sv_flat.proofs.LeastSets.{those_below}
use Rattle.sv_flat.proofs.Members.{contained_all}
use Rattle.sv_paths.specs.Alongs.{along, conditions_along, trail_obligation, is_large_trail}
use Rattle.sv_obl.specs.Obligations.{Obligation, flow, is_link, frame_of, path_obligation}
use Rattle.sv_obl.specs.Paths.{StepForm, Path, open_path, before, closed, paths}
use Rattle.sv_paths.specs.Trails.{TrailForm, open_trail, trails_before}
use Rattle.sv_obl.specs.Wanted.{marked}
use Rattle.sv_obl.proofs.PathLists.{zip_any, zip_count}
use Rattle.sv_paths.proofs.TrailAlong.{Goes, AllGo, all_go, steps_found}
use Rattle.sv_paths.proofs.TrailClosing.{marks_are, obligation_is}
use Rattle.sv_paths.proofs.TrailCounts.{count}
use Rattle.sv_paths.proofs.TrailPaths.{AssignsSignals, LonePieces, all_tell}
use Rattle.sv_paths.proofs.TrailTells.{mark_of, left, Tells, AllTell}

-- a count that is kept up to one over the limit passes it where the whole count does
capped_same : (n : ℕ) → nat_lt 65536 n ≡ nat_lt 65536 (min n 65537)
capped_same n = grind (arith, nat_tests)

module _ (design : FlatDesign) (p : ProcessForm) (s : ℕ) (body : FlatStatement) where
  abbrev signals : List SignalForm
  signals = design.signals

  abbrev close_path : Path → Path
  close_path path = closed signals false path

  abbrev of_trail : TrailForm → Obligation
  of_trail t = trail_obligation signals p s body t

  abbrev all_going : List Path → List TrailForm → Type 0
  all_going = AllGo signals s (along signals s body) (open_path signals s) (open_trail s)

  one_obligation : (path : Path) (t : TrailForm) → Tells signals s path t
      → Goes signals s (along signals s body) (open_path signals s) (open_trail s) path t
      → path_obligation [] design p s (close_path path) ≡ of_trail t
  one_obligation path t tells there =
      obligation_is s path t [] design p tells
      ∙ ap (λ (steps : List StepForm). record {
        facts = [];
        path = steps;
        right = cond (is_link p.kind) (Some p.place) t.place;
        reads = t.names.settled;
        goal = flow s (frame_of p.kind);
      }) (sym (steps_found signals s body path t there))

  obligations_same : (ps : List Path) (ts : List TrailForm) → AllTell signals s ps ts
      → all_going ps ts
      → map (path_obligation [] design p s) (map close_path ps) ≡ map of_trail ts
  obligations_same [] [] tell go = refl
  obligations_same [] (t ∷ ts) tell go = elim tell [ ]
  obligations_same (path ∷ ps) [] tell go = elim tell [ ]
  obligations_same (path ∷ ps) (t ∷ ts) tell go =
      ap₂ (λ a b. a ∷ b) (one_obligation path t tell.0 go.0)
      (obligations_same ps ts tell.1 go.1)

  -- so many are large
  large_same : (ps : List Path) (ts : List TrailForm) → AllTell signals s ps ts
      → list_any (λ (path : Path). nat_lt 65536 path.nodes) (map close_path ps)
      ≡ list_any is_large_trail ts
  large_same ps ts tell =
      zip_any (Tells signals s) close_path (λ (path : Path). nat_lt 65536 path.nodes)
      is_large_trail (λ path t tells. capped_same path.nodes ∙ ap (nat_lt 65536) (sym tells.nodes))
      ps ts tell

  count_same : (ps : List Path) (ts : List TrailForm) → AllTell signals s ps ts
      → length (map close_path ps) ≡ length ts
  count_same ps ts tell = zip_count (Tells signals s) close_path ps ts tell

  -- the conditions along a trail, as a line shows them
  marks_along : (ps : List Path) (ts : List TrailForm) → AllTell signals s ps ts → all_going ps ts
      → (t : TrailForm) → Contains ts t
      → map mark_of (conditions_along signals s body t) ≡ reverse t.marks
  marks_along [] [] tell go t at = absurd (Contains-nil t at)
  marks_along [] (u ∷ ts) tell go t at = elim tell [ ]
  marks_along (path ∷ ps) [] tell go t at = elim tell [ ]
  marks_along (path ∷ ps) (u ∷ ts) tell go t at = ⊎_elim
      (λ is. subst (λ (v : TrailForm). map mark_of (conditions_along signals s body v)
      ≡ reverse v.marks) is
      (ap (map mark_of) (steps_found signals s body path u go.0)
      ∙ marks_are s path u signals tell.0))
      (λ later. marks_along ps ts tell.1 go.1 t later)
      (Contains-cases u ts t at)

  -- what is read along it are signals
  names_below : (ps : List Path) (ts : List TrailForm) → AllTell signals s ps ts
      → (t : TrailForm) → Contains ts t → All (λ x. x < length signals) t.names.settled
  names_below [] [] tell t at = absurd (Contains-nil t at)
  names_below [] (u ∷ ts) tell t at = elim tell [ ]
  names_below (path ∷ ps) [] tell t at = elim tell [ ]
  names_below (path ∷ ps) (u ∷ ts) tell t at = ⊎_elim
      (λ is. subst (λ (v : TrailForm). All (λ x. x < length signals) v.names.settled) is
      (subst (All (λ x. x < length signals)) (sym tell.0.names.settled)
      (contained_all (λ x. x < length signals)
      (those (length signals) (λ x. not (min (count (left signals s u.own path) x) 65537 == 0)))
      (those_below (length signals)
      (λ x. not (min (count (left signals s u.own path) x) 65537 == 0))))))
      (λ later. names_below ps ts tell.1 t later)
      (Contains-cases u ts t at)

-- ---- a process that is not clocked

module _ (design : FlatDesign) (p : ProcessForm) (s : ℕ) (unclocked : is_clocked p.kind ≡ false)
    (lone : LonePieces design.signals (marked design.signals (is_block p.kind) p.body no_bits))
    (below : AssignsSignals design.signals
    (marked design.signals (is_block p.kind) p.body no_bits)) where
  -- the body in which earlier reads are wanted
  abbrev pub marked_body : FlatStatement
  marked_body = marked design.signals (is_block p.kind) p.body no_bits

  abbrev pub target_trails : List TrailForm
  target_trails = trails_before design.signals s marked_body (open_trail s)

  abbrev open_paths : List Path
  open_paths = before design.signals s marked_body (open_path design.signals s)

  paths_are : paths design.signals s p.kind p.body ≡ map (closed design.signals false) open_paths
  paths_are = ap (λ b. map (closed design.signals b) open_paths) unclocked

  tell : AllTell design.signals s open_paths target_trails
  tell = all_tell design.signals s marked_body lone below

  -- the obligations of the target through the process are those of its trails
  pub target_is : map (path_obligation [] design p s) (paths design.signals s p.kind p.body)
      ≡ map (trail_obligation design.signals p s marked_body) target_trails
  target_is = ap (map (path_obligation [] design p s)) paths_are
      ∙ obligations_same design p s marked_body open_paths target_trails tell
      (all_go design.signals s marked_body lone below)

  pub target_large : list_any (λ (path : Path). nat_lt 65536 path.nodes)
      (paths design.signals s p.kind p.body)
      ≡ list_any is_large_trail target_trails
  target_large = ap (list_any (λ (path : Path). nat_lt 65536 path.nodes)) paths_are
      ∙ large_same design p s marked_body open_paths target_trails tell

  pub target_marks : (t : TrailForm) → Contains target_trails t
      → map mark_of (conditions_along design.signals s marked_body t) ≡ reverse t.marks
  target_marks = marks_along design p s marked_body open_paths target_trails tell
      (all_go design.signals s marked_body lone below)

  pub target_names : (t : TrailForm) → Contains target_trails t →
      All (λ x. x < length design.signals) t.names.settled
  target_names = names_below design p s marked_body open_paths target_trails tell

  pub target_count : length (paths design.signals s p.kind p.body) ≡ length target_trails
  target_count = ap length paths_are
      ∙ count_same design p s marked_body open_paths target_trails tell
