-- What soundness says of the parts of statements and designs.
use Rattle.std.proofs.Common.{◌≡◌, ℕ, zero, suc, ◌+◌, ◌-◌, ◌==◌, ◌<◌, ◌≤◌, Bool, ◌&&◌, nat_lt}
use Rattle.std.proofs.Common.{nat_le, List, [], ◌∷◌, length, map, get_or, drop, sym, ap, subst, ◌∙◌}
use Rattle.std.proofs.Common.{ap₂, arith, add-one, ltb-true, leb-true, Vec, Global}
use Rattle.std.specs.Prelude.{IsTrue, Contains}
use Rattle.std.specs.List.{list_all}
use Rattle.std.proofs.Math.Seq.{drop-cons}
use Rattle.sv_num.specs.declared.faults.Place.{Place}
use Rattle.sv_flat.specs.declared.statements.FStmt.{FStmt, Block}
use Rattle.sv_flat.specs.declared.statements.Piece.{Piece}
use Rattle.sv_flat.specs.Design.{SignalForm, TypedTree, PieceForm, FlatStatement, after}
use Rattle.sv_flat.specs.Design.{branch, ProcessForm, FlatDesign}
use Rattle.sv_flat.specs.Values.{signal_of, signal_width, expression_width}
use Rattle.sv_flat.specs.Soundness.{is_one_to, is_signal, is_part_of, piece_fits, statement_sound}
use Rattle.sv_flat.specs.Soundness.{well_formed}
use Rattle.sv_flat.specs.Soundness.{kind_sound, process_sound, map_sound, label_sound, signal_sound}
use Rattle.sv_flat.specs.Soundness.{invariant_sound, sound}
use Rattle.sv_flat.proofs.Rows.{row_chain-hidden}
use Rattle.sv_flat.proofs.NumberedRuns.{chain_at}
use Rattle.sv_flat.specs.Views.{flat_statement, flat_statements, chain_of, piece_form, process_form}
use Rattle.sv_flat.specs.Views.{process_kind, design_of}
use Rattle.std.proofs.lemmas.List.Elements.{Contains-get_or}
use Rattle.sv_system.proofs.Lists.{Contains-head, Contains-later, Contains-map}
use Rattle.sv_flat.specs.declared.designs.Flat.{Flat}
use Rattle.sv_flat.specs.declared.designs.Process.{Process}
use Rattle.sv_flat.proofs.Depths.{first_of, second_of, from_all}
use Rattle.sv_rules.specs.Pieces.{piece_forms}
use Rattle.sv_rules.specs.DriverTables.{AreTargets}

-- the statements from a place on are the one there and those after it
pub next_statement : (stmts : List FStmt) (i : ℕ) (stmt : FStmt) → i < length stmts
    → stmt ≡ get_or stmts i stmt
    → chain_of (flat_statements (drop i stmts)) ≡
    after (flat_statement stmt) (chain_of (flat_statements (drop (i + 1) stmts)))
next_statement stmts i stmt inside is = chain_at stmts i stmt inside is

-- the last statements and the one before them, where so many were gone through from the end
pub next_last : (stmts : List FStmt) (i : ℕ) (stmt : FStmt) → i < length stmts
    → stmt ≡ get_or stmts (length stmts - 1 - i) stmt
    → chain_of (flat_statements (drop (length stmts - (i + 1)) stmts)) ≡
    after (flat_statement stmt)
    (chain_of (flat_statements (drop (length stmts - (i + 1) + 1) stmts)))
next_last stmts i stmt inside is =
    let j = length stmts - (i + 1) in
    let below : j < length stmts = omega (arith, inside) in
    let same : length stmts - 1 - i ≡ j = omega (arith, inside) in
    next_statement stmts j stmt below (subst (λ k. stmt ≡ get_or stmts k stmt) same is)

-- a block is the chain of the statements of its vector
pub block_is : (stmt : FStmt) (stmts : Vec FStmt Global) (items : List FStmt) → stmt ≡ Block stmts
    → items ≡ stmts.items
    → flat_statement stmt ≡ chain_of (flat_statements items)
block_is stmt stmts items is same =
    ap flat_statement is ∙ row_chain-hidden stmts
    ∙ ap (λ ss. chain_of (flat_statements ss)) (sym same)

-- a branch has the arms that its boxes hold
pub branch_is : (stmt first second : FStmt) {place : Place} {cond : TypedTree} {yes no : FStmt}
    → flat_statement stmt ≡ branch place cond (flat_statement yes) (flat_statement no)
    → first ≡ yes → second ≡ no
    → flat_statement stmt ≡ branch place cond (flat_statement first) (flat_statement second)
branch_is stmt first second {place} {cond} is one two =
    is ∙ ap₂ (λ p q. branch place cond (flat_statement p) (flat_statement q)) (sym one) (sym two)

-- a statement is sound as what it is
pub sound_as : (signals : List SignalForm) {stmt other : FStmt} → stmt ≡ other
    → IsTrue (statement_sound signals (flat_statement stmt))
    → IsTrue (statement_sound signals (flat_statement other))
sound_as signals is h = subst (λ z. IsTrue (statement_sound signals (flat_statement z))) is h

-- the condition and the arms of a branch are sound as the branch is
pub branch_sound : (signals : List SignalForm) (place : Place) (condition : TypedTree)
    (first second : FlatStatement)
    → IsTrue (statement_sound signals (branch place condition first second))
    → IsTrue (well_formed signals condition) × IsTrue (statement_sound signals first)
    × IsTrue (statement_sound signals second)
branch_sound signals place condition first second h =
    let formed = well_formed signals condition in
    let front = first_of (formed && statement_sound signals first)
    (statement_sound signals second) h in (
      first_of formed (statement_sound signals first) front,
      second_of formed (statement_sound signals first) front,
      second_of (formed && statement_sound signals first) (statement_sound signals second) h,
    )

-- the first arm of a branch is sound as the branch is
pub sound_arm : (signals : List SignalForm) (stmt first : FStmt) {place : Place} {cond : TypedTree}
    {yes : FStmt} {no : FlatStatement}
    → flat_statement stmt ≡ branch place cond (flat_statement yes) no → first ≡ yes
    → IsTrue (statement_sound signals (flat_statement stmt))
    → IsTrue (statement_sound signals (flat_statement first))
sound_arm signals stmt first {place} {cond} {yes} {no} is one h =
    sound_as signals (sym one)
    (second_of (well_formed signals cond) (statement_sound signals (flat_statement yes))
    (first_of (well_formed signals cond && statement_sound signals (flat_statement yes))
    (statement_sound signals no) (subst (λ z. IsTrue (statement_sound signals z)) is h)))

-- the statements of a block are sound as the block is
pub sound_block : (signals : List SignalForm) (stmt : FStmt) (stmts : Vec FStmt Global)
    (items : List FStmt) → stmt ≡ Block stmts → items ≡ stmts.items
    → IsTrue (statement_sound signals (flat_statement stmt))
    → IsTrue (statement_sound signals (chain_of (flat_statements items)))
sound_block signals stmt stmts items is same h =
    subst (λ z. IsTrue (statement_sound signals z)) (block_is stmt stmts items is same) h

-- the pieces from a place on are the one there and those after it
pub piece_at : (pieces : List Piece) (i : ℕ) (d : Piece) → i < length pieces
    → piece_forms (drop i pieces) ≡ piece_form (get_or pieces i d) ∷
    piece_forms (drop (i + 1) pieces)
piece_at pieces i d inside =
    ap piece_forms (drop-cons pieces i d inside)
    ∙ ap (λ k. piece_form (get_or pieces i d) ∷ piece_forms (drop k pieces)) (sym (add-one i))

module _ (signals : List SignalForm) where
  pub sound_first : (s t : FlatStatement) → IsTrue (statement_sound signals (after s t)) →
      IsTrue (statement_sound signals s)
  sound_first s t h = first_of (statement_sound signals s) (statement_sound signals t) h

  pub sound_rest : (s t : FlatStatement) → IsTrue (statement_sound signals (after s t)) →
      IsTrue (statement_sound signals t)
  sound_rest s t h = second_of (statement_sound signals s) (statement_sound signals t) h

  -- the statements from a place on are sound: so is the one there, and so are those after it
  module _ (stmts : List FStmt) (i : ℕ) (stmt : FStmt) (inside : i < length stmts)
      (is : stmt ≡ get_or stmts i stmt)
      (h : IsTrue (statement_sound signals (chain_of (flat_statements (drop i stmts))))) where
    next_sound : IsTrue (statement_sound signals
        (after (flat_statement stmt) (chain_of (flat_statements (drop (i + 1) stmts)))))
    next_sound =
        subst (λ b. IsTrue (statement_sound signals b)) (next_statement stmts i stmt inside is) h

    pub sound_here : IsTrue (statement_sound signals (flat_statement stmt))
    sound_here = sound_first (flat_statement stmt)
        (chain_of (flat_statements (drop (i + 1) stmts))) next_sound

    pub sound_after :
        IsTrue (statement_sound signals (chain_of (flat_statements (drop (i + 1) stmts))))
    sound_after = sound_rest (flat_statement stmt)
        (chain_of (flat_statements (drop (i + 1) stmts))) next_sound

  pub piece_is_signal : (e : TypedTree) (p : PieceForm) → IsTrue (piece_fits signals e p) →
      p.signal < length signals
  piece_is_signal e p h = ltb-true p.signal (length signals)
      (first_of (is_signal signals p.signal)
      (is_part_of (signal_width signals p.signal) (expression_width e - p.from) p.high p.low) h)

  piece_is_part : (e : TypedTree) (p : PieceForm) → IsTrue (piece_fits signals e p)
      → IsTrue (nat_le p.low p.high && nat_lt p.high (signal_width signals p.signal))
  piece_is_part e p h =
      first_of (nat_le p.low p.high && nat_lt p.high (signal_width signals p.signal))
      (nat_le (p.high + 1 - p.low) (expression_width e - p.from))
      (second_of (is_signal signals p.signal)
      (is_part_of (signal_width signals p.signal) (expression_width e - p.from) p.high p.low) h)

  pub piece_has_bits : (e : TypedTree) (p : PieceForm) → IsTrue (piece_fits signals e p) →
      IsTrue (nat_le p.low p.high)
  piece_has_bits e p h =
      first_of (nat_le p.low p.high) (nat_lt p.high (signal_width signals p.signal))
      (piece_is_part e p h)

-- ---- designs

listed : (signals : List SignalForm) (s : ℕ) → s < length signals →
    Contains signals (signal_of signals s)
listed [] s inside = absurd (omega arith)
listed (z ∷ signals) zero inside = Contains-head z signals
listed (z ∷ signals) (suc s) inside =
    Contains-later z signals (signal_of signals s) (listed signals s (omega arith))

module _ (design : FlatDesign) (is_sound : IsTrue (sound design)) where
  abbrev to_maps : Bool
  to_maps =
      nat_lt (length design.signals) 4294967295 && (length design.points == length design.lattice)
      && list_all (map_sound design) design.maps

  abbrev to_signals : Bool
  to_signals = to_maps && list_all (signal_sound design) design.signals

  abbrev to_processes : Bool
  to_processes = to_signals && list_all (process_sound design) design.processes

  to_processes_is : IsTrue to_processes
  to_processes_is =
      first_of to_processes (list_all (invariant_sound design) design.invariants) is_sound

  to_signals_is : IsTrue to_signals
  to_signals_is =
      first_of to_signals (list_all (process_sound design) design.processes) to_processes_is

  pub few_are : IsTrue (nat_lt (length design.signals) 4294967295)
  few_are =
      let few = nat_lt (length design.signals) 4294967295 in
      let named = length design.points == length design.lattice in
      first_of few named (first_of (few && named) (list_all (map_sound design) design.maps)
      (first_of to_maps (list_all (signal_sound design) design.signals) to_signals_is))

  pub all_signals : IsTrue (list_all (signal_sound design) design.signals)
  all_signals = second_of to_maps (list_all (signal_sound design) design.signals) to_signals_is

  pub all_invariants : IsTrue (list_all (invariant_sound design) design.invariants)
  all_invariants =
      second_of to_processes (list_all (invariant_sound design) design.invariants) is_sound

  pub process_is_sound : (p : ProcessForm) → Contains design.processes p →
      IsTrue (process_sound design p)
  process_is_sound p at = from_all (process_sound design) design.processes p
      (second_of to_signals (list_all (process_sound design) design.processes) to_processes_is) at

  pub width_is_sound : (s : ℕ) → s < length design.signals →
      IsTrue (is_one_to 64 (signal_width design.signals s))
  width_is_sound s inside =
      let signal = signal_of design.signals s in
      first_of (is_one_to 64 signal.width) (label_sound design signal.label)
      (from_all (signal_sound design) design.signals signal all_signals
      (listed design.signals s inside))

  pub some_width : (s : ℕ) → s < length design.signals → 1 ≤ signal_width design.signals s
  some_width s inside = leb-true 1 (signal_width design.signals s)
      (first_of (nat_le 1 (signal_width design.signals s))
      (nat_le (signal_width design.signals s) 64) (width_is_sound s inside))

  pub few_bits : (s : ℕ) → s < length design.signals → signal_width design.signals s ≤ 64
  few_bits s inside = leb-true (signal_width design.signals s) 64
      (second_of (nat_le 1 (signal_width design.signals s))
      (nat_le (signal_width design.signals s) 64) (width_is_sound s inside))

-- the process at a place of a design's vector
pub process_at : (flat : Flat) (processes : List Process) (i : ℕ) (p : Process)
    → processes ≡ flat.processes.items → i < length processes
    → p ≡ get_or processes i p → IsTrue (sound (design_of flat))
    → IsTrue (process_sound (design_of flat) (process_form p))
process_at flat processes i p same inside is is_sound =
    process_is_sound (design_of flat) is_sound (process_form p)
    (Contains-map process_form flat.processes.items p
    (subst (λ (ps : List Process). Contains ps p) same
    (subst (Contains processes) (sym is) (Contains-get_or processes i p inside))))

pub body_at : (flat : Flat) (processes : List Process) (i : ℕ) (p : Process)
    → processes ≡ flat.processes.items → i < length processes
    → p ≡ get_or processes i p → IsTrue (sound (design_of flat))
    → IsTrue (statement_sound (design_of flat).signals (flat_statement p.body))
body_at flat processes i p same inside is is_sound =
    second_of (kind_sound (design_of flat) (process_kind p.kind) (flat_statement p.body))
    (statement_sound (design_of flat).signals (flat_statement p.body))
    (process_at flat processes i p same inside is is_sound)

-- the processes from a place on are the one there and those after it
pub next_process : (processes : List Process) (i : ℕ) (p : Process) → i < length processes
    → p ≡ get_or processes i p
    → map process_form (drop i processes) ≡ process_form p ∷
    map process_form (drop (i + 1) processes)
next_process processes i p inside is =
    ap (map process_form) (drop-cons processes i p inside)
    ∙ ap (λ q. process_form q ∷ map process_form (drop (suc i) processes)) (sym is)
    ∙ ap (λ k. process_form p ∷ map process_form (drop k processes)) (sym (add-one i))

-- ---- targets

targets_at : (n : ℕ) (pieces : List Piece) (i : ℕ) (d : Piece) → i < length pieces
    → AreTargets n (piece_forms (drop i pieces))
    → AreTargets n (piece_form (get_or pieces i d) ∷ piece_forms (drop (i + 1) pieces))
targets_at n pieces i d inside all = subst (AreTargets n) (piece_at pieces i d inside) all

pub targets_first : (n : ℕ) (pieces : List Piece) (i : ℕ) (d : Piece) → i < length pieces
    → AreTargets n (piece_forms (drop i pieces))
    → (get_or pieces i d).signal.0 < n
targets_first n pieces i d inside all =
    targets_at n pieces i d inside all 0 (piece_form d) (omega arith)

-- also below what is the bound
pub target_below : {n m : ℕ} (pieces : List Piece) (i : ℕ) (d : Piece) → m ≡ n
    → i < length pieces → AreTargets n (piece_forms (drop i pieces))
    → (get_or pieces i d).signal.0 < m
target_below {n} {m} pieces i d same inside all =
    subst (λ k. (get_or pieces i d).signal.0 < k) (sym same) (targets_first n pieces i d inside all)

pub targets_rest : (n : ℕ) (pieces : List Piece) (i : ℕ) (d : Piece) → i < length pieces
    → AreTargets n (piece_forms (drop i pieces))
    → AreTargets n (piece_forms (drop (i + 1) pieces))
targets_rest n pieces i d inside all =
    λ k e h. targets_at n pieces i d inside all (suc k) e (omega arith)
