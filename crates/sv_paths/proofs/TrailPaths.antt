-- The trails of a body tell its paths, one by one.
use Rattle.std.proofs.Common.{ℕ, ◌<◌, Bool, true, false, cond, List, [], ◌∷◌, ◌++◌, length}
use Rattle.std.proofs.Common.{map, sym, subst}
use Rattle.std.specs.Prelude.{IsTrue}
use Rattle.std.proofs.lemmas.Bool.{or_left, or_right}
use Rattle.sv_flat.specs.Design.{SignalForm, FlatStatement, nothing, after, assign, branch}
use Rattle.sv_flat.specs.Assigned.{assigns}
use Rattle.sv_obl.specs.Paths.{Path, open_path, under, with_way, ways_taken, before}
use Rattle.sv_paths.specs.Trails.{TrailForm, open_trail, takes, chosen, marked_by, with_assign}
use Rattle.sv_paths.specs.Trails.{trails_before}
use Rattle.sv_obl.proofs.PathRuns.{step_of}
use Rattle.sv_obl.proofs.PathLists.{zip_append, zip_map, zip_flat}
use Rattle.sv_paths.proofs.TrailPuts.{Lone}
use Rattle.sv_paths.proofs.TrailTells.{mark_of, Tells, AllTell, one_tells}
use Rattle.sv_paths.proofs.TrailTells.{open_tells, under_tells, chosen_tells, taken_is}
use Rattle.sv_paths.proofs.TrailAssigns.{assign_tells}

module _ (signals : List SignalForm) where
  -- what it assigns is a signal
  abbrev pub AssignsSignals : FlatStatement → Type 0
  AssignsSignals statement = (k : ℕ) → IsTrue (assigns statement k) → k < length signals

  -- in each assignment a signal that is covered has one piece
  abbrev pub LonePieces : FlatStatement → Type 0
  LonePieces nothing = Unit {0}
  LonePieces (after first second) = LonePieces first × LonePieces second
  LonePieces (assign pieces place blocking right) = Lone signals pieces
  LonePieces (branch place condition first second) = LonePieces first × LonePieces second

module _ (signals : List SignalForm) (s : ℕ) where
  pub before_tell : (statement : FlatStatement) → LonePieces signals statement
      → AssignsSignals signals statement → (p : Path) (t : TrailForm) → Tells signals s p t
      → AllTell signals s (before signals s statement p) (trails_before signals s statement t)
  before_tell nothing lone below p t tells = one_tells signals s p t tells
  before_tell (after first second) lone below p t tells =
      zip_flat (Tells signals s) (before signals s first) (trails_before signals s first)
      (before_tell first lone.0
      (λ k is. below k (or_left (assigns first k) (assigns second k) is)))
      (before signals s second p) (trails_before signals s second t)
      (before_tell second lone.1
      (λ k is. below k (or_right (assigns first k) (assigns second k) is)) p t tells)
  before_tell (assign pieces place blocking right) lone below p t tells =
      subst (λ c. AllTell signals s (cond c (map (with_way signals s pieces right p)
      (ways_taken signals pieces right p)) (p ∷ []))
      (trails_before signals s (assign pieces place blocking right) t))
      (sym (taken_is signals s p t tells (assign pieces place blocking right) below))
      (by_test (takes (assign pieces place blocking right) t))
    where
      by_test : (c : Bool) → AllTell signals s
          (cond c (map (with_way signals s pieces right p) (ways_taken signals pieces right p))
          (p ∷ []))
          (cond c (with_assign signals s pieces right t) (t ∷ []))
      by_test true = assign_tells signals s pieces lone right p t tells
      by_test false = one_tells signals s p t tells
  before_tell (branch place condition first second) lone below p t tells =
      subst (λ c. AllTell signals s (cond c (map (under (step_of place condition true))
      (before signals s first p)
      ++ map (under (step_of place condition false)) (before signals s second p)) (p ∷ []))
      (trails_before signals s (branch place condition first second) t))
      (sym (taken_is signals s p t tells (branch place condition first second) below))
      (by_test (takes (branch place condition first second) t) _ _
      (zip_append (Tells signals s)
      (map (under (step_of place condition true)) (before signals s first p))
      (map (under (step_of place condition false)) (before signals s second p))
      (map (marked_by (length signals) (mark_of (step_of place condition true)) condition)
      (trails_before signals s first (chosen true t)))
      (map (marked_by (length signals) (mark_of (step_of place condition false)) condition)
      (trails_before signals s second (chosen false t)))
      (arm_tells true (before signals s first p) (trails_before signals s first (chosen true t))
      (before_tell first lone.0
      (λ k is. below k (or_left (assigns first k) (assigns second k) is)) p (chosen true t)
      (chosen_tells signals s true p t tells)))
      (arm_tells false (before signals s second p) (trails_before signals s second (chosen false t))
      (before_tell second lone.1
      (λ k is. below k (or_right (assigns first k) (assigns second k) is)) p (chosen false t)
      (chosen_tells signals s false p t tells)))))
    where
      arm_tells : (truth : Bool) (ps : List Path) (ts : List TrailForm) → AllTell signals s ps ts
          → AllTell signals s (map (under (step_of place condition truth)) ps)
          (map (marked_by (length signals) (mark_of (step_of place condition truth)) condition) ts)
      arm_tells truth =
          zip_map (Tells signals s) (under (step_of place condition truth))
          (marked_by (length signals) (mark_of (step_of place condition truth)) condition)
          (under_tells signals s (step_of place condition truth))

      by_test : (c : Bool) (ps : List Path) (ts : List TrailForm) → AllTell signals s ps ts
          → AllTell signals s (cond c ps (p ∷ [])) (cond c ts (t ∷ []))
      by_test true ps ts all = all
      by_test false ps ts all = one_tells signals s p t tells

  -- from the open path and the open trail on
  pub all_tell : (body : FlatStatement) → LonePieces signals body → AssignsSignals signals body
      → AllTell signals s (before signals s body (open_path signals s))
      (trails_before signals s body (open_trail s))
  all_tell body lone below =
      before_tell body lone below (open_path signals s) (open_trail s) (open_tells signals s)
