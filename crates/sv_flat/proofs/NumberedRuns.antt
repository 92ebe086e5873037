-- Runs on values by number.
use mathlib.Core.Path.{fun_ext}
use Rattle.std.proofs.Common.{◌≡◌, ℕ, zero, suc, ◌+◌, ◌^◌, ◌-◌, ◌<◌, ◌≤◌, Bool, true, false}
use Rattle.std.proofs.Common.{cond, ◌&&◌, ◌==◌, List, [], ◌∷◌, ◌++◌, length, map, fold}
use Rattle.std.proofs.Common.{drop, set, get_or, get_or-set_same, get_or-set_other, refl, sym, ap}
use Rattle.std.proofs.Common.{subst, ◌∙◌, ⊎_elim, add-one, length-set, ltb-true}
use Rattle.std.specs.Prelude.{IsTrue, IsFalse, slice_index}
use Rattle.std.specs.List.{list_all}
use Rattle.std.proofs.Math.Seq.{drop-cons}
use Rattle.std.proofs.lemmas.List.{length-map}
use Rattle.std.proofs.lemmas.Bool.{eqb-true, eq-eqb, false≢true}
use Rattle.std.proofs.lemmas.List.Elements.{Contains-get_or}
use Rattle.sv_num.specs.Vectors.{is_true}
use Rattle.sv_system.specs.System.{Environment, put, last_update}
use Rattle.sv_system.proofs.Lists.{Contains-map}
use Rattle.sv_system.proofs.Fronts.{left_more}
use Rattle.sv_flat.specs.declared.signals.Signal.{Signal}
use Rattle.std.specs.declared.alloc.Global.{Global}
use Rattle.std.specs.declared.vec.Vec.{Vec}
use Rattle.std.proofs.Common.{Box}
use Rattle.sv_num.specs.declared.faults.Place.{Place}
use Rattle.sv_flat.specs.declared.expressions.FExpr.{FExpr}
use Rattle.sv_flat.specs.declared.statements.FStmt as stmt
use Rattle.sv_flat.specs.declared.statements.FStmt.{FStmt, Row_of-FStmt, end_of-FStmt}
use Rattle.sv_flat.specs.declared.statements.FStmt.{more_of-FStmt}
use Rattle.sv_flat.specs.declared.statements.Piece.{Piece}
use Rattle.sv_flat.specs.ByNumber.{signal_forms, by_number, FitSignals, updated, is_nonblocking}
use Rattle.sv_flat.specs.ByNumber.{is_branch}
use Rattle.sv_flat.specs.Design.{SignalForm, TypedTree, PieceForm, FlatStatement, nothing, after}
use Rattle.sv_flat.specs.Design.{assign, branch}
use Rattle.sv_flat.specs.Runs.{Updates, with_piece, put_piece, run, run_alone}
use Rattle.sv_flat.specs.Soundness.{is_signal, is_part_of, piece_fits}
use Rattle.sv_flat.specs.Values.{signal_width, expression_width, value}
use Rattle.sv_flat.specs.Views.{signal_form, piece_form, flat_statement, flat_statements, chain_of}
use Rattle.sv_flat.specs.Views.{row_chain}
use Rattle.sv_flat.proofs.Depths.{first_of, second_of, from_all}
use Rattle.sv_flat.proofs.LeastSets.{either_way}
use Rattle.sv_flat.proofs.Rows.{row_chain-hidden}
use Rattle.sv_flat.proofs.SameRuns.{piece_lies_inside}

-- ---- lists of values

-- a value that is written is what a change of the environment puts there
pub by_number-set : (values : List ℕ) (k x : ℕ) → k < length values →
    by_number (set values k x) ≡ put ◌==◌ k x (by_number values)
by_number-set values k x inside = fun_ext (λ s. ⊎_elim
    (λ same.
    let is = eqb-true k s same in
    subst (λ z. by_number (set values k x) z ≡ x) is (get_or-set_same values k x 0 inside)
    ∙ sym (ap (λ b. cond b x (by_number values s)) same))
    (λ other.
    get_or-set_other values k s x 0 (λ e.
    false≢true (sym other ∙ ap (λ z. k == z) e ∙ eq-eqb k k refl))
    ∙ sym (ap (λ b. cond b x (by_number values s)) other))
    (either_way (k == s)))

-- a value of its signal's width may be written
pub fit-set : (signals : List SignalForm) (values : List ℕ) (k x : ℕ) → FitSignals signals values
    → x < 2 ^ signal_width signals k
    → FitSignals signals (set values k x)
fit-set signals values k x fit low = record {
  count = length-set values k x ∙ fit.count;
  each = λ s inside. ⊎_elim
      (λ same.
      let is = eqb-true k s same in
      subst (λ z. slice_index (set values k x) z < 2 ^ signal_width signals z) is
      (subst (λ z. z < 2 ^ signal_width signals k)
      (sym (get_or-set_same values k x 0
      (subst (λ z. z < length values) (sym is) (subst (λ n. s < n) (sym fit.count) inside))))
      low))
      (λ other.
      subst (λ z. z < 2 ^ signal_width signals s)
      (sym (get_or-set_other values k s x 0 (λ e.
      false≢true (sym other ∙ ap (λ z. k == z) e ∙ eq-eqb k k refl))))
      (fit.each s inside))
      (either_way (k == s));
}

-- ---- pieces and statements of a list

abbrev pub no_piece : Piece
no_piece =
    record {
      signal = record { 0 = 0 };
      place = record { line = 0; column = 0 };
      high = 0;
      low = 0;
      from = 0;
    }

-- the piece at a place
abbrev pub piece_of : List Piece → ℕ → Piece
piece_of pieces i = get_or pieces i no_piece

module _ (signals : List Signal) (right : TypedTree) (pieces : List Piece) (i : ℕ)
    (inside : i < length pieces)
    (fine : IsTrue (list_all (piece_fits (signal_forms signals) right) (map piece_form pieces)))
  where
    piece_fine : IsTrue (piece_fits (signal_forms signals) right (piece_form (piece_of pieces i)))
    piece_fine =
        from_all (piece_fits (signal_forms signals) right) (map piece_form pieces)
        (piece_form (piece_of pieces i)) fine
        (Contains-map piece_form pieces (piece_of pieces i)
        (Contains-get_or pieces i no_piece inside))

    pub piece_known : (piece_of pieces i).signal.0 < length signals
    piece_known =
        let s = (piece_of pieces i).signal.0 in
        subst (λ n. s < n) (length-map signals signal_form)
        (ltb-true s (length (signal_forms signals))
        (first_of (is_signal (signal_forms signals) s)
        (is_part_of (signal_width (signal_forms signals) s)
        (expression_width right - (piece_of pieces i).from) (piece_of pieces i).high
        (piece_of pieces i).low) piece_fine))

    pub piece_inside : ((piece_of pieces i).low ≤ (piece_of pieces i).high)
        × ((piece_of pieces i).high
        < signal_width (signal_forms signals) (piece_of pieces i).signal.0)
    piece_inside =
        piece_lies_inside (signal_forms signals) right (piece_form (piece_of pieces i)) piece_fine

    pub piece_has_value : (values : List ℕ) → FitSignals (signal_forms signals) values →
        (piece_of pieces i).signal.0 < length values
    piece_has_value values fit =
        subst (λ n. (piece_of pieces i).signal.0 < n)
        (sym (fit.count ∙ length-map signals signal_form)) piece_known

pub pieces_at : (pieces : List Piece) (i : ℕ) → i < length pieces
    → map piece_form (drop i pieces) ≡ piece_form (piece_of pieces i) ∷
    map piece_form (drop (i + 1) pieces)
pieces_at pieces i inside =
    ap (map piece_form) (drop-cons pieces i no_piece inside)
    ∙ ap (λ k. piece_form (piece_of pieces i) ∷ map piece_form (drop k pieces)) (sym (add-one i))

abbrev pub chain : List FStmt → FlatStatement
chain ss = chain_of (flat_statements ss)

pub chain_at : (ss : List FStmt) (i : ℕ) (s : FStmt) → i < length ss → s ≡ get_or ss i s
    → chain (drop i ss) ≡ after (flat_statement s) (chain (drop (i + 1) ss))
chain_at ss i s inside is = ap chain (left_more ss i s inside is)

-- what holds of both statements of each pair holds of each one of a chain
pub holds_from : (test : FlatStatement → Bool)
    → ((a b : FlatStatement) → test (after a b) ≡ (test a && test b))
    → (ss : List FStmt) (i : ℕ) → IsTrue (test (chain ss)) → IsTrue (test (chain (drop i ss)))
holds_from test pairs ss zero h = h
holds_from test pairs [] (suc i) h = h
holds_from test pairs (s ∷ ss) (suc i) h =
    holds_from test pairs ss i
    (second_of (test (flat_statement s)) (test (chain ss))
    (sym (pairs (flat_statement s) (chain ss)) ∙ h))

pub holds_at : (test : FlatStatement → Bool)
    → ((a b : FlatStatement) → test (after a b) ≡ (test a && test b))
    → (ss : List FStmt) (i : ℕ) (s : FStmt) → i < length ss → s ≡ get_or ss i s
    → IsTrue (test (chain ss))
    → IsTrue (test (flat_statement s))
holds_at test pairs ss i s inside is h =
    let left = subst (λ z.
    IsTrue (test z)) (chain_at ss i s inside is) (holds_from test pairs ss i h) in
    first_of (test (flat_statement s)) (test (chain (drop (i + 1) ss)))
    (sym (pairs (flat_statement s) (chain (drop (i + 1) ss))) ∙ left)

-- ---- runs

module _ (signals : List SignalForm) where
  abbrev State : Type 0
  State = Environment ℕ × Updates

  -- the environment after a run does not depend on what is pending
  pieces_env : (blocking : Bool) (v : ℕ) (ps : List PieceForm) (now : State) (us : Updates)
      → (fold (put_piece signals blocking v) now ps).0 ≡
      (fold (put_piece signals blocking v) (now.0, us) ps).0
  pieces_env blocking v [] now us = refl
  pieces_env true v (p ∷ ps) now us = pieces_env true v ps (put_piece signals true v now p) us
  pieces_env false v (p ∷ ps) now us =
      pieces_env false v ps (put_piece signals false v now p)
      (put_piece signals false v (now.0, us) p).1

  either_env : (b : Bool) (x y z w : State) → x.0 ≡ z.0 → y.0 ≡ w.0 →
      (cond b x y).0 ≡ (cond b z w).0
  either_env true x y z w first second = first
  either_env false x y z w first second = second

  pub run_env : (body : FlatStatement) (now : State) (us : Updates) →
      (run signals body now).0 ≡ (run signals body (now.0, us)).0
  run_env nothing now us = refl
  run_env (after first second) now us =
      run_env second (run signals first now) (run signals first (now.0, us)).1
      ∙ ap (λ e. (run signals second (e, (run signals first (now.0, us)).1)).0)
      (run_env first now us)
  run_env (assign pieces place blocking right) now us =
      pieces_env blocking (value signals now.0 right) pieces now us
  run_env (branch place condition first second) now us =
      either_env (is_true (value signals now.0 condition)) (run signals first now)
      (run signals second now)
      (run signals first (now.0, us)) (run signals second (now.0, us)) (run_env first now us)
      (run_env second now us)

  -- one statement after the other
  pub alone_after : (first second : FlatStatement) (e : Environment ℕ)
      → run_alone signals (after first second) e ≡
      run_alone signals second (run_alone signals first e)
  alone_after first second e = run_env second (run signals first (e, [])) []

  -- without blocking assignments the environment stays
  pub pieces_stay : (v : ℕ) (ps : List PieceForm) (now : State) →
      (fold (put_piece signals false v) now ps).0 ≡ now.0
  pieces_stay v [] now = refl
  pieces_stay v (p ∷ ps) now = pieces_stay v ps (put_piece signals false v now p)

  either_stays : (b : Bool) (x y : State) (e : Environment ℕ) → x.0 ≡ e → y.0 ≡ e →
      (cond b x y).0 ≡ e
  either_stays true x y e first second = first
  either_stays false x y e first second = second

  pub run_stays : (body : FlatStatement) → IsTrue (is_nonblocking body) → (now : State) →
      (run signals body now).0 ≡ now.0
  run_stays nothing h now = refl
  run_stays (after first second) h now =
      run_stays second (second_of (is_nonblocking first) (is_nonblocking second) h)
      (run signals first now)
      ∙ run_stays first (first_of (is_nonblocking first) (is_nonblocking second) h) now
  run_stays (assign [] place blocking right) h now = refl
  run_stays (assign (p ∷ ps) place true right) h now = absurd (false≢true h)
  run_stays (assign (p ∷ ps) place false right) h now =
      pieces_stay (value signals now.0 right) (p ∷ ps) now
  run_stays (branch place condition first second) h now =
      either_stays (is_true (value signals now.0 condition)) (run signals first now)
      (run signals second now) now.0
      (run_stays first (first_of (is_nonblocking first) (is_nonblocking second) h) now)
      (run_stays second (second_of (is_nonblocking first) (is_nonblocking second) h) now)

  -- the updates of a run, on the environment that it leaves
  pub run_is : (body : FlatStatement) → IsTrue (is_nonblocking body) → (now : State) →
      run signals body now ≡ (now.0, (run signals body now).1)
  run_is body h now = ap (λ e. (e, (run signals body now).1)) (run_stays body h now)

-- ---- updates

same_last : (s old : ℕ) (us : Updates) (u : ℕ × ℕ) →
    last_update ◌==◌ s old (us ++ u ∷ []) ≡ cond (u.0 == s) u.1 (last_update ◌==◌ s old us)
same_last s old [] u = refl
same_last s old (v ∷ us) u = same_last s (cond (v.0 == s) v.1 old) us u

-- one more update is one more change
pub updated-more : (e : Environment ℕ) (us : Updates) (k x : ℕ) →
    updated e (us ++ (k, x) ∷ []) ≡ put ◌==◌ k x (updated e us)
updated-more e us k x = fun_ext (λ s. same_last s (e s) us (k, x))

-- to put pieces where some updates are made is to make more updates
pub pieces_updated : (forms : List SignalForm) (right : ℕ) (e : Environment ℕ) (us : Updates)
    (ps : List PieceForm)
    → (fold (put_piece forms true right) (updated e us, []) ps).0 ≡
    updated e (fold (put_piece forms false right) (e, us) ps).1
pieces_updated forms right e us [] = refl
pieces_updated forms right e us (p ∷ ps) =
    let x = with_piece forms p right (updated e us p.signal) in
    ap (λ z. (fold (put_piece forms true right) (z, []) ps).0) (sym (updated-more e us p.signal x))
    ∙ pieces_updated forms right e (us ++ (p.signal, x) ∷ []) ps

-- ---- arms

block_no_branch : (n : _) (row : Row_of-FStmt n) → IsFalse (is_branch (row_chain row))
block_no_branch _ end_of-FStmt = refl
block_no_branch _ (more_of-FStmt s row) = refl

-- a statement that is no `if`
pub no_branch : (s : FStmt)
    → ((place : Place) (condition : FExpr) (first second : Box FStmt Global)
    → s ≡ stmt.If place condition first second → ⊥)
    → IsFalse (is_branch (flat_statement s))
no_branch (stmt.Assign pieces place blocking right) h = refl
no_branch (stmt.Block' shape row) h = block_no_branch _ row
no_branch (stmt.If' place condition p first q second) h = absurd (h place condition
    (record { ptr = p.ptr; alloc = p.alloc; value = first }) (record {
      ptr = q.ptr;
      alloc = q.alloc;
      value = second;
    }) refl)

-- ---- what a process's statement is

pub block_is : (s : FStmt) (v : Vec FStmt Global) (ss : List FStmt) → s ≡ stmt.Block v →
    ss ≡ v.items → flat_statement s ≡ chain ss
block_is s v ss is items = ap flat_statement is ∙ row_chain-hidden v ∙ sym (ap chain items)

-- what a taken assignment puts, by whether it is blocking, is what the whole run does
pub assigned_alone :
    (signals : List SignalForm) (e : Environment ℕ) (ps : List PieceForm) (place : Place)
    (blocking now : Bool) (right : TypedTree) (body taken : FlatStatement)
    → blocking ≡ now → taken ≡ assign ps place blocking right
    → run signals taken (e, []) ≡ run signals body (e, [])
    → (fold (put_piece signals now (value signals e right)) (e, []) ps).0 ≡
    run_alone signals body e
assigned_alone signals e ps place blocking now right body taken same is runs =
    ap (λ b. (fold (put_piece signals b (value signals e right)) (e, []) ps).0) (sym same)
    ∙ ap (λ s. run_alone signals s e) (sym is) ∙ ap (λ z. z.0) runs

pub nonblocking_run :
    (signals : List SignalForm) (ps : List PieceForm) (place : Place) (blocking : Bool)
    (right : TypedTree) (now : Environment ℕ × Updates)
    → IsTrue (is_nonblocking (assign ps place blocking right))
    → fold (put_piece signals false (value signals now.0 right)) now ps ≡
    run signals (assign ps place blocking right) now
nonblocking_run signals [] place blocking right now h = refl
nonblocking_run signals (p ∷ ps) place true right now h = absurd (false≢true h)
nonblocking_run signals (p ∷ ps) place false right now h = refl
