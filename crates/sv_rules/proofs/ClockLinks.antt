-- Links to clocks, by a table of clocks.
use Rattle.std.proofs.Common.{◌≡◌, ℕ, ◌<◌, Bool, true, false, ◌&&◌, ◌==◌, List, [], ◌∷◌, length}
use Rattle.std.proofs.Common.{get_or, refl, sym, ap, subst, ◌∙◌, zero-add}
use Rattle.std.specs.Prelude.{IsTrue, IsFalse, Contains}
use Rattle.std.specs.List.{list_any, list_all}
use Rattle.std.proofs.lemmas.Bool.{false≢true, eqb-true, eq-eqb}
use Rattle.std.proofs.lemmas.List.FromFn.{length-map-range_with_len, get_or-map-range_with_len}
use Rattle.sv_flat.specs.declared.statements.FStmt.{FStmt}
use Rattle.sv_flat.specs.Design.{SignalForm, PieceForm, TypedTree, assign}
use Rattle.sv_flat.specs.Design.{ProcessKind, continuous, port_in, port_out, combinational, clocked}
use Rattle.sv_flat.specs.Design.{release, ProcessForm, FlatDesign}
use Rattle.sv_flat.specs.Assigned.{assigns}
use Rattle.sv_flat.specs.Clocks.{is_port_in, clocks, is_clock, is_clock_link}
use Rattle.sv_flat.specs.Soundness.{piece_fits, well_formed, is_one_assignment, statement_sound}
use Rattle.sv_flat.specs.Soundness.{kind_sound, process_sound}
use Rattle.sv_flat.specs.Views.{flat_statements, chain_of}
use Rattle.sv_flat.proofs.LeastSets.{some_from, from_some}
use Rattle.sv_flat.proofs.Depths.{first_of, second_of, from_all}
use Rattle.sv_rules.specs.DriverTables.{AreClocks}
use Rattle.sv_graph.proofs.BitFacts.{same_answer}
use Rattle.sv_rules.proofs.Sound.{piece_is_signal}

module _ (design : FlatDesign) (table : List Bool) (are : AreClocks design table) where
  pub at_table : (s : ℕ) → s < length design.signals → get_or table s false ≡ is_clock design s
  at_table s inside =
      ap (λ t. get_or t s false) are
      ∙ get_or-map-range_with_len (is_clock design) 0 (length design.signals) s s false inside
      (zero-add s)

  -- it has a place for each signal
  pub clocks_count : length table ≡ length design.signals
  clocks_count =
      ap length are ∙ length-map-range_with_len (is_clock design) 0 (length design.signals)

  module _ (e : TypedTree) (pieces : List PieceForm)
      (fits : IsTrue (list_all (piece_fits design.signals e) pieces)) where
    is_inside : (q : PieceForm) → Contains pieces q → q.signal < length design.signals
    is_inside q at =
        piece_is_signal design.signals e q (from_all (piece_fits design.signals e) pieces q fits at)

    pub any_clock : list_any (λ (q : PieceForm). get_or table q.signal false) pieces
        ≡ list_any (λ k. list_any (λ (q : PieceForm). q.signal == k) pieces) (clocks design)
    any_clock = same_answer _ _
        (λ h.
        let found = from_some (λ (q : PieceForm). get_or table q.signal false) pieces h in
        let q = found.0 in
        let clock = from_some (λ m.
        m == q.signal) (clocks design) (sym (at_table q.signal (is_inside q found.1))
        ∙ found.2) in
        some_from (λ k. list_any (λ (r : PieceForm). r.signal == k) pieces) (clocks design)
        clock.0 clock.1
        (some_from (λ (r : PieceForm). r.signal == clock.0) pieces q found.1
        (eq-eqb q.signal clock.0 (sym (eqb-true clock.0 q.signal clock.2)))))
        (λ h.
        let found = from_some (λ k.
        list_any (λ (r : PieceForm). r.signal == k) pieces) (clocks design) h in
        let piece = from_some (λ (r : PieceForm). r.signal == found.0) pieces found.2 in
        let q = piece.0 in
        some_from (λ (r : PieceForm). get_or table r.signal false) pieces q piece.1
        (at_table q.signal (is_inside q piece.1)
        ∙ some_from (λ m. m == q.signal) (clocks design) found.0 found.1
        (eq-eqb found.0 q.signal (sym (eqb-true q.signal found.0 piece.2)))))

port_body : (design : FlatDesign) (p : ProcessForm) → IsTrue (process_sound design p) →
    is_port_in p.kind ≡ true → IsTrue (is_one_assignment design.signals p.body)
port_body design p sound port =
    of_kind p.kind (first_of (kind_sound design p.kind p.body)
    (statement_sound design.signals p.body) sound) port
  where
    of_kind : (k : ProcessKind) → IsTrue (kind_sound design k p.body) → is_port_in k ≡ true →
        IsTrue (is_one_assignment design.signals p.body)
    of_kind port_in h e = h
    of_kind continuous h e = absurd (false≢true e)
    of_kind port_out h e = absurd (false≢true e)
    of_kind combinational h e = absurd (false≢true e)
    of_kind (clocked c) h e = absurd (false≢true e)
    of_kind (release r) h e = absurd (false≢true e)

no_chain : (signals : List SignalForm) (stmts : List FStmt) →
    IsFalse (is_one_assignment signals (chain_of (flat_statements stmts)))
no_chain signals [] = refl
no_chain signals (s ∷ stmts) = refl

module _ (design : FlatDesign) (p : ProcessForm) (sound : IsTrue (process_sound design p)) where
  pub not_block : (b : Bool) → b ≡ is_port_in p.kind → b ≡ true → (stmts : List FStmt) →
      p.body ≡ chain_of (flat_statements stmts) → false ≡ is_clock_link design p
  not_block b is e stmts same = absurd (false≢true
      (sym (no_chain design.signals stmts) ∙ ap (is_one_assignment design.signals) (sym same)
      ∙ port_body design p sound (sym is ∙ e)))

  pub is_link : (table : List Bool) → AreClocks design table → (b : Bool) → b ≡ is_port_in p.kind
      → b ≡ true
      → {place : _} {blocking : Bool} (pieces : List PieceForm) (value : TypedTree)
      → p.body ≡ assign pieces place blocking value
      → list_any (λ (q : PieceForm). get_or table q.signal false) pieces ≡ is_clock_link design p
  is_link table are b is e pieces value same =
      let body_sound = subst (λ z. IsTrue (statement_sound design.signals z)) same
      (second_of (kind_sound design p.kind p.body) (statement_sound design.signals p.body) sound) in
      any_clock design table are value pieces
      (second_of (well_formed design.signals value)
      (list_all (piece_fits design.signals value) pieces) body_sound)
      ∙ ap (λ z. list_any (assigns z) (clocks design)) (sym same)
      ∙ ap (λ t. t && list_any (assigns p.body) (clocks design)) (sym (sym is ∙ e))
