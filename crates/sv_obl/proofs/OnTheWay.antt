-- What the statement in which earlier reads are wanted makes of the copies of what is followed:
-- what a run leaves in their signals; and that it makes it from what is read for them alone.
use Rattle.std.proofs.Common.{◌≡◌, ℕ, ◌<◌, Bool, true, false, cond, ◌==◌, List, [], ◌∷◌, ◌++◌}
use Rattle.std.proofs.Common.{fold, length, ⊎_elim, refl, sym, ap, ap₂, subst, ◌∙◌, arith}
use Rattle.std.specs.Prelude.{Contains, IsTrue, IsFalse}
use Rattle.std.specs.List.{list_all}
use Rattle.std.proofs.lemmas.Bool.{false≢true, eqb-true, eq-eqb}
use Rattle.sv_num.specs.Vectors.{is_true}
use Rattle.sv_num.specs.declared.faults.Place.{Place}
use Rattle.sv_system.specs.System.{Environment, put}
use Rattle.sv_flat.specs.Design.{SignalForm, TypedTree, PieceForm, FlatStatement, nothing, after}
use Rattle.sv_flat.specs.Design.{assign, branch}
use Rattle.sv_flat.specs.Values.{value}
use Rattle.sv_flat.specs.Runs.{with_piece, run}
use Rattle.sv_flat.specs.Sets.{holds}
use Rattle.sv_flat.specs.Soundness.{piece_fits, well_formed, statement_sound}
use Rattle.sv_flat.specs.Assigned.{assigns, always_assigns, can_assign}
use Rattle.sv_flat.specs.Readings.{BitSet, either, Reading, readings_of, readings}
use Rattle.sv_flat.proofs.Members.{Contains-left, Contains-right}
use Rattle.sv_flat.proofs.LeastSets.{either_way, holds-from_Contains}
use Rattle.sv_flat.proofs.Depths.{first_of, second_of}
use Rattle.sv_flat.proofs.SameRuns.{or_none_left, or_none_right, none_found, put_other, put_there}
use Rattle.sv_obl.specs.MadeValues.{after_piece, put_followed, made_on_the_way}
use Rattle.sv_obl.specs.Paths.{pieces_of}
use Rattle.sv_obl.specs.Wanted.{with_copies, copy_of, is_copy, original, marked_tree, marked}
use Rattle.sv_rules.proofs.Sound.{branch_sound}
use Rattle.sv_obl.proofs.PathLists.{cond_true, cond_false, none_kept}
use Rattle.sv_obl.proofs.PathNames.{Fine, AllServe, marked_fine}
use Rattle.sv_obl.proofs.PathRuns.{Held, marked_held}
use Rattle.sv_obl.proofs.PathTells.{here, Follows, marked_assigns}
use Rattle.sv_obl.proofs.PutFacts.{State, all_are, running, running_leaves, made_with, assign_runs}
use Rattle.sv_obl.proofs.PutFacts.{copy_is_copy, original_of_copy, settled_is_signal}
use Rattle.sv_obl.proofs.TreeFacts.{same_names}

module _ (signals : List SignalForm) (s : ℕ) where
  one_more : (c : Bool) (v : ℕ) (p : PieceForm) (pieces : List PieceForm) (old : ℕ)
      → made_with signals v pieces (cond c (with_piece signals p v old) old) ≡
      made_with signals v (cond c (p ∷ pieces) pieces) old
  one_more true v p pieces old = refl
  one_more false v p pieces old = refl

  -- an assignment puts its pieces of the signal
  pub pieces_make : (v : ℕ) (pieces : List PieceForm) (old : ℕ)
      → fold (after_piece signals s v) old pieces ≡ made_with signals v (pieces_of s pieces) old
  pieces_make v [] old = refl
  pieces_make v (p ∷ pieces) old =
      pieces_make v pieces (after_piece signals s v old p)
      ∙ one_more (p.signal == s) v p (pieces_of s pieces) old

module _ (signals : List SignalForm) (followed : List ℕ) where
  at_arm : (c : Bool) (first second : Environment ℕ) (s n : ℕ) → first s ≡ n → second s ≡ n
      → cond c first second s ≡ n
  at_arm true first second s n one other = one
  at_arm false first second s n one other = other

  -- ---- what stays

  apart : (t u : ℕ) → (t ≡ u → ⊥) → IsFalse (t == u)
  apart t u differ = none_found (t == u) (λ same. differ (eqb-true t u same))

  -- a piece changes one copy
  put_elsewhere : (v t : ℕ) (now : Environment ℕ) (piece : PieceForm)
      → (copy_of signals piece.signal ≡ t → ⊥) → put_followed signals followed v now piece t ≡ now t
  put_elsewhere v t now piece differ =
      let copy = copy_of signals piece.signal in
      at_arm (holds followed piece.signal)
      (put ◌==◌ copy (with_piece signals piece v (now copy)) now) now t (now t)
      (put_other copy t (with_piece signals piece v (now copy)) now (apart copy t differ)) refl

  pieces_settled : (v t : ℕ) (pieces : List PieceForm) (now : Environment ℕ) → t < length signals
      → fold (put_followed signals followed v) now pieces t ≡ now t
  pieces_settled v t [] now low = refl
  pieces_settled v t (p ∷ pieces) now low =
      pieces_settled v t pieces (put_followed signals followed v now p) low
      ∙ put_elsewhere v t now p (λ same. omega (arith, same))

  -- settled names keep their values
  pub stays_settled : (body : FlatStatement) (now : Environment ℕ) (t : ℕ) → t < length signals
      → made_on_the_way signals followed body now t ≡ now t
  stays_settled nothing now t low = refl
  stays_settled (after first second) now t low =
      stays_settled second (made_on_the_way signals followed first now) t low
      ∙ stays_settled first now t low
  stays_settled (assign pieces place blocked right) now t low =
      pieces_settled (value (with_copies signals) now right) t pieces now low
  stays_settled (branch place condition first second) now t low =
      at_arm (is_true (value (with_copies signals) now condition))
      (made_on_the_way signals followed first now) (made_on_the_way signals followed second now) t
      (now t) (stays_settled first now t low) (stays_settled second now t low)

  -- ---- one followed signal

  module _ (s : ℕ) (is_member : IsTrue (holds followed s)) where
    abbrev copy : ℕ
    copy = copy_of signals s

    put_here : (v : ℕ) (now : Environment ℕ) (piece : PieceForm)
        → put_followed signals followed v now piece copy
        ≡ after_piece signals s v (now copy) piece
    put_here v now piece = ⊎_elim
        (λ same.
        let there = λ (x : ℕ). copy_of signals x in
        let is = eqb-true piece.signal s same in
        let held = subst (λ x. IsTrue (holds followed x)) (sym is) is_member in
        let new = with_piece signals piece v (now (there piece.signal)) in
        ap (λ (e : Environment ℕ). e copy) (cond_true (holds followed piece.signal)
        (put ◌==◌ (there piece.signal) new now) now held)
        ∙ subst (λ x. put ◌==◌ (there piece.signal) new now (there x) ≡ new) is
        (put_there (there piece.signal) new now)
        ∙ ap (λ x. with_piece signals piece v (now (there x))) is
        ∙ sym (cond_true (piece.signal == s) (with_piece signals piece v (now copy)) (now copy)
        same))
        (λ other.
        put_elsewhere v copy now piece (λ same. false≢true (sym other
        ∙ eq-eqb piece.signal s (omega (arith, same))))
        ∙ sym (cond_false (piece.signal == s) (with_piece signals piece v (now copy)) (now copy)
        other))
        (either_way (piece.signal == s))

    pub pieces_here : (v : ℕ) (pieces : List PieceForm) (now : Environment ℕ)
        → fold (put_followed signals followed v) now pieces copy
        ≡ fold (after_piece signals s v) (now copy) pieces
    pieces_here v [] now = refl
    pieces_here v (p ∷ pieces) now =
        pieces_here v pieces (put_followed signals followed v now p)
        ∙ ap (λ old. fold (after_piece signals s v) old pieces) (put_here v now p)

    pieces_put : (v : ℕ) (pieces : List PieceForm) (now : Environment ℕ)
        → fold (put_followed signals followed v) now pieces copy
        ≡ made_with signals v (pieces_of s pieces) (now copy)
    pieces_put v pieces now =
        pieces_here v pieces now ∙ pieces_make signals s v pieces (now copy)

    -- a statement that does not assign it leaves it
    way_leaves : (body : FlatStatement) (now : Environment ℕ) → IsFalse (assigns body s)
        → made_on_the_way signals followed body now copy ≡ now copy
    way_leaves nothing now none = refl
    way_leaves (after first second) now none =
        way_leaves second (made_on_the_way signals followed first now)
        (or_none_right (assigns first s) (assigns second s) none)
        ∙ way_leaves first now (or_none_left (assigns first s) (assigns second s) none)
    way_leaves (assign pieces place blocked right) now none =
        let v = value (with_copies signals) now right in
        pieces_put v pieces now
        ∙ ap (λ ps. made_with signals v ps (now copy))
        (none_kept (λ (p : PieceForm). p.signal == s) pieces none)
    way_leaves (branch place condition first second) now none =
        at_arm (is_true (value (with_copies signals) now condition))
        (made_on_the_way signals followed first now)
        (made_on_the_way signals followed second now) copy (now copy)
        (way_leaves first now (or_none_left (assigns first s) (assigns second s) none))
        (way_leaves second now (or_none_right (assigns first s) (assigns second s) none))

module _ (signals : List SignalForm) (in_block : Bool) (target : ℕ) (Served : ℕ → Type 0)
    (followed : List ℕ) where
  abbrev both : List SignalForm
  both = with_copies signals

  abbrev Member : ℕ → Type 0
  Member u = Contains followed u

  abbrev FineTree : TypedTree → Type 0
  FineTree t = Fine signals in_block target Served Member t

  abbrev Serve : List Reading → Type 0
  Serve rs = AllServe signals in_block target Served Member rs

  abbrev on_the_way : FlatStatement → BitSet → Environment ℕ → Environment ℕ
  on_the_way body later now =
      made_on_the_way signals followed (marked signals in_block body later) now

  is_held : (u : ℕ) → Member u → IsTrue (holds followed u)
  is_held u u_at = holds-from_Contains followed u u_at

  -- a statement that does not assign a member leaves its copy
  leaves : (body : FlatStatement) (later : BitSet) (now : Environment ℕ) (u : ℕ) → Member u
      → IsFalse (assigns body u)
      → on_the_way body later now (copy_of signals u) ≡ now (copy_of signals u)
  leaves body later now u u_at none =
      way_leaves signals followed u (is_held u u_at) (marked signals in_block body later) now
      (marked_assigns signals in_block body later u ∙ none)

  assignment : (pieces : List PieceForm) (tree : TypedTree) (now : Environment ℕ) (u : ℕ)
      → Member u
      → fold (put_followed signals followed (value both now tree)) now pieces (copy_of signals u)
      ≡ made_with signals (value both now tree) (pieces_of u pieces) (now (copy_of signals u))
  assignment pieces tree now u u_at =
      pieces_put signals followed u (is_held u u_at) (value both now tree) pieces now

  -- a branch: its condition is well formed and names what is served, and so it is with its arms
  module _ (place : Place) (condition : TypedTree) (first second : FlatStatement)
      (early later : BitSet)
      (sound : IsTrue (statement_sound signals (branch place condition first second)))
      (serve : Serve (readings signals (branch place condition first second) early later)) where
    abbrev chosen : FlatStatement
    chosen = branch place condition first second

    abbrev chosen_bits : BitSet
    chosen_bits = either (can_assign chosen) later

    abbrev read_here : List Reading
    read_here = readings_of signals condition (assigns chosen) early chosen_bits

    abbrev in_first : List Reading
    in_first = readings signals first early later

    abbrev in_second : List Reading
    in_second = readings signals second early later

    formed : IsTrue (well_formed signals condition)
    formed = (branch_sound signals place condition first second sound).0

    first_sound : IsTrue (statement_sound signals first)
    first_sound = (branch_sound signals place condition first second sound).1

    second_sound : IsTrue (statement_sound signals second)
    second_sound = (branch_sound signals place condition first second sound).2

    first_served : Serve in_first
    first_served r at = serve r (Contains-left (read_here ++ in_first) in_second r
        (Contains-right read_here in_first r at))

    second_served : Serve in_second
    second_served r at = serve r (Contains-right (read_here ++ in_first) in_second r at)

    condition_fine : (u : ℕ) → Member u → IsTrue (assigns chosen u)
        → FineTree (marked_tree signals in_block chosen_bits condition)
    condition_fine u u_at own =
        marked_fine signals in_block target Served Member chosen condition early chosen_bits formed
        u u_at own
        (λ r at. serve r (Contains-left (read_here ++ in_first) in_second r
        (Contains-left read_here in_first r at)))

  -- ---- runs

  module _ (b : Bool) (z : Environment ℕ) where
    -- settled names have their values of the environment, and copies those of the run
    abbrev pub Stands : Environment ℕ → State → Type 0
    Stands now x =
        ((t : ℕ) → t < length signals → now t ≡ z t)
        × ((u : ℕ) → Member u → now (copy_of signals u) ≡ running b x u)

    tree_stands : (t : TypedTree) (now : Environment ℕ) (x : State) → Held signals t → FineTree t
        → Stands now x → value both now t ≡ value both (here signals in_block b target z x) t
    tree_stands t now x held fine stands =
        same_names both (length signals) now (here signals in_block b target z x) t held
        (λ r at. ⊎_elim
        (λ settled.
        stands.0 r.signal (settled_is_signal signals r.signal settled.0)
        ∙ sym (cond_false (is_copy signals r.signal) (running b x (original signals r.signal))
        (z r.signal) settled.0))
        (λ wanted.
        let u = wanted.0 in
        ap now wanted.2
        ∙ stands.1 u wanted.1
        ∙ sym (ap (running b x) (original_of_copy signals u))
        ∙ sym (cond_true (is_copy signals (copy_of signals u))
        (running b x (original signals (copy_of signals u))) (z (copy_of signals u))
        (copy_is_copy signals u))
        ∙ sym (ap (here signals in_block b target z x) wanted.2))
        (fine r at))

    by_arm : (c : Bool) (first second : Environment ℕ) (x y : State) (k u : ℕ)
        → (IsTrue c → first k ≡ running b x u) → (IsFalse c → second k ≡ running b y u)
        → cond c first second k ≡ running b (cond c x y) u
    by_arm true first second x y k u one other = one refl
    by_arm false first second x y k u one other = other refl

    -- what is made of a member's copy is what the run leaves in the member
    pub way_runs : (body : FlatStatement) (early later : BitSet) (now : Environment ℕ) (x : State)
        → IsTrue (all_are b body) → IsTrue (statement_sound signals body)
        → Follows signals in_block b target z body later x
        → Serve (readings signals body early later) → Stands now x
        → (u : ℕ) → Member u
        → on_the_way body later now (copy_of signals u) ≡ running b (run signals body x) u
    way_runs nothing early later now x kind sound follows serve stands u u_at = stands.1 u u_at
    way_runs (after first second) early later now x kind sound follows serve stands u u_at =
        let late = either (can_assign second) later in
        let mid = either (always_assigns first) early in
        way_runs second mid later (on_the_way first late now) (run signals first x)
        (second_of (all_are b first) (all_are b second) kind)
        (second_of (statement_sound signals first) (statement_sound signals second) sound)
        follows.1
        (λ r at. serve r (Contains-right (readings signals first early late)
        (readings signals second mid later) r at)) (
          (λ t low. stays_settled signals followed (marked signals in_block first late) now t low
              ∙ stands.0 t low),
          (λ w w_at. way_runs first early late now x
              (first_of (all_are b first) (all_are b second) kind)
              (first_of (statement_sound signals first) (statement_sound signals second) sound)
              follows.0
              (λ r at. serve r (Contains-left (readings signals first early late)
              (readings signals second mid later) r at))
              stands w w_at),
        )
        u u_at
    way_runs (assign pieces place blocked right) early later now x kind sound follows serve stands
        u u_at =
        let whole = assign pieces place blocked right in
        let bits = either (can_assign whole) later in
        let tree = marked_tree signals in_block bits right in
        let well = first_of (well_formed signals right)
        (list_all (piece_fits signals right) pieces) sound in
        ⊎_elim
        (λ own.
        let fine = marked_fine signals in_block target Served Member whole right early bits well u
        u_at own serve in
        assignment pieces tree now u u_at
        ∙ ap₂ (λ v old. made_with signals v (pieces_of u pieces) old)
        (tree_stands tree now x (marked_held signals in_block bits right well) fine stands
        ∙ sym follows)
        (stands.1 u u_at)
        ∙ sym (assign_runs signals b pieces place blocked right x u kind))
        (λ none.
        leaves whole later now u u_at none ∙ stands.1 u u_at
        ∙ sym (running_leaves signals b whole u kind none x))
        (either_way (assigns whole u))
    way_runs (branch place condition first second) early later now x kind sound follows serve
        stands u u_at =
        let whole = branch place condition first second in
        let bits = either (can_assign whole) later in
        let tree = marked_tree signals in_block bits condition in
        ⊎_elim
        (λ own.
        let fine = condition_fine place condition first second early later sound serve u u_at own in
        let well = formed place condition first second early later sound serve in
        let same = tree_stands tree now x (marked_held signals in_block bits condition well) fine
        stands ∙ sym follows.0 in
        let first_way = on_the_way first later now in
        let second_way = on_the_way second later now in
        ap (λ v. cond (is_true v) first_way second_way (copy_of signals u)) same
        ∙ by_arm (is_true (value signals x.0 condition)) first_way second_way
        (run signals first x) (run signals second x) (copy_of signals u) u
        (λ holds. way_runs first early later now x
        (first_of (all_are b first) (all_are b second) kind)
        (first_sound place condition first second early later sound serve) (follows.1 holds)
        (first_served place condition first second early later sound serve) stands u u_at)
        (λ fails. way_runs second early later now x
        (second_of (all_are b first) (all_are b second) kind)
        (second_sound place condition first second early later sound serve) (follows.2 fails)
        (second_served place condition first second early later sound serve) stands u u_at))
        (λ none.
        leaves whole later now u u_at none ∙ stands.1 u u_at
        ∙ sym (running_leaves signals b whole u kind none x))
        (either_way (assigns whole u))

  -- ---- agreement

  -- two environments have the same values of what is served, and of copies of members
  abbrev pub Alike : Environment ℕ → Environment ℕ → Type 0
  Alike x y =
      ((t : ℕ) → t < length signals → Served t → x t ≡ y t)
      × ((u : ℕ) → Member u → x (copy_of signals u) ≡ y (copy_of signals u))

  tree_alike : (t : TypedTree) (x y : Environment ℕ) → Held signals t → FineTree t → Alike x y
      → value both x t ≡ value both y t
  tree_alike t x y held fine alike =
      same_names both (length signals) x y t held (λ r at. ⊎_elim
      (λ settled. alike.0 r.signal (settled_is_signal signals r.signal settled.0) settled.1)
      (λ wanted. ap x wanted.2 ∙ alike.1 wanted.0 wanted.1 ∙ sym (ap y wanted.2))
      (fine r at))

  at_arms : (c : Bool) (one other first second : Environment ℕ) (k : ℕ) → one k ≡ first k
      → other k ≡ second k → cond c one other k ≡ cond c first second k
  at_arms true one other first second k same different = same
  at_arms false one other first second k same different = different

  -- from there the same is made of a member's copy
  pub way_alike : (body : FlatStatement) (early later : BitSet) (x y : Environment ℕ)
      → IsTrue (statement_sound signals body) → Serve (readings signals body early later)
      → Alike x y → (u : ℕ) → Member u
      → on_the_way body later x (copy_of signals u) ≡ on_the_way body later y (copy_of signals u)
  way_alike nothing early later x y sound serve alike u u_at = alike.1 u u_at
  way_alike (after first second) early later x y sound serve alike u u_at =
      let late = either (can_assign second) later in
      let mid = either (always_assigns first) early in
      let half = marked signals in_block first late in
      way_alike second mid later (on_the_way first late x) (on_the_way first late y)
      (second_of (statement_sound signals first) (statement_sound signals second) sound)
      (λ r at. serve r (Contains-right (readings signals first early late)
      (readings signals second mid later) r at)) (
        (λ t low served. stays_settled signals followed half x t low ∙ alike.0 t low served
            ∙ sym (stays_settled signals followed half y t low)),
        (λ w w_at. way_alike first early late x y
            (first_of (statement_sound signals first) (statement_sound signals second) sound)
            (λ r at. serve r (Contains-left (readings signals first early late)
            (readings signals second mid later) r at)) alike w w_at),
      )
      u u_at
  way_alike (assign pieces place blocked right) early later x y sound serve alike u u_at =
      let whole = assign pieces place blocked right in
      let bits = either (can_assign whole) later in
      let tree = marked_tree signals in_block bits right in
      let well = first_of (well_formed signals right)
      (list_all (piece_fits signals right) pieces) sound in
      ⊎_elim
      (λ own.
      let fine = marked_fine signals in_block target Served Member whole right early bits well u
      u_at own serve in
      assignment pieces tree x u u_at
      ∙ ap₂ (λ v old. made_with signals v (pieces_of u pieces) old)
      (tree_alike tree x y (marked_held signals in_block bits right well) fine alike)
      (alike.1 u u_at)
      ∙ sym (assignment pieces tree y u u_at))
      (λ none.
      leaves whole later x u u_at none ∙ alike.1 u u_at ∙ sym (leaves whole later y u u_at none))
      (either_way (assigns whole u))
  way_alike (branch place condition first second) early later x y sound serve alike u u_at =
      let whole = branch place condition first second in
      let bits = either (can_assign whole) later in
      let tree = marked_tree signals in_block bits condition in
      ⊎_elim
      (λ own.
      let fine = condition_fine place condition first second early later sound serve u u_at own in
      let well = formed place condition first second early later sound serve in
      ap (λ v. cond (is_true v) (on_the_way first later x) (on_the_way second later x)
      (copy_of signals u))
      (tree_alike tree x y (marked_held signals in_block bits condition well) fine alike)
      ∙ at_arms (is_true (value both y tree)) (on_the_way first later x)
      (on_the_way second later x) (on_the_way first later y) (on_the_way second later y)
      (copy_of signals u)
      (way_alike first early later x y
      (first_sound place condition first second early later sound serve)
      (first_served place condition first second early later sound serve) alike u u_at)
      (way_alike second early later x y
      (second_sound place condition first second early later sound serve)
      (second_served place condition first second early later sound serve) alike u u_at))
      (λ none.
      leaves whole later x u u_at none ∙ alike.1 u u_at ∙ sym (leaves whole later y u u_at none))
      (either_way (assigns whole u))
