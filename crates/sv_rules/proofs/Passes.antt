-- Reads that are out of phase, statement by statement.
use Rattle.std.proofs.Common.{◌≡◌, ℕ, zero, suc, ◌+◌, ◌<◌, Bool, true, false, ◌||◌, List, [], ◌∷◌}
use Rattle.std.proofs.Common.{◌++◌, length, get_or, drop, Option, None, refl, sym, ap, ap₂, subst}
use Rattle.std.proofs.Common.{◌∙◌, append_assoc, Bor}
use Rattle.std.specs.Prelude.{IsTrue}
use Rattle.std.specs.List.{list_any}
use Rattle.std.proofs.lemmas.List.{append-nil}
use Rattle.sv_flat.specs.Assigned.{can_assign, always_assigns, has_bit}
use Rattle.sv_flat.specs.Breaches.{Breach}
use Rattle.sv_flat.specs.Design.{SignalForm, FlatStatement, nothing, after}
use Rattle.sv_flat.specs.Readings.{BitSet, either, readings}
use Rattle.sv_flat.specs.Soundness.{statement_sound}
use Rattle.sv_flat.specs.Views.{flat_statement, flat_statements, chain_of}
use Rattle.sv_flat.specs.declared.statements.FStmt.{FStmt}
use Rattle.sv_flat.specs.declared.statements.Piece.{Piece}
use Rattle.sv_graph.specs.declared.bit_sets.BitSet.{BitSet as Bits}
use Rattle.sv_rules.specs.declared.found.Found.{Found}
use Rattle.sv_rules.specs.declared.surroundings.Surrounding.{Surrounding, Inside}
use Rattle.sv_graph.specs.BitSets.{in_bits, mask_in}
use Rattle.sv_rules.specs.Pieces.{piece_forms}
use Rattle.sv_rules.specs.First.{FindsFirst, first_found}
use Rattle.sv_rules.specs.Phases.{wrong_reads, SameBits, HasTargets, AddsAssigned, FindsReads}
use Rattle.sv_rules.specs.Surroundings.{in_surrounding}
use Rattle.sv_graph.proofs.EntryFacts.{nothing_in}
use Rattle.sv_rules.proofs.Firsts.{finds_both}
use Rattle.sv_rules.proofs.PhaseFacts.{wrong_reads-append}
use Rattle.sv_rules.proofs.PieceFacts.{in_surrounding-inside}
use Rattle.sv_rules.proofs.Sound.{next_statement, sound_first, sound_rest}

-- ---- soundness

pub sound_from : (signals : List SignalForm) (stmts : List FStmt) (i : ℕ)
    → IsTrue (statement_sound signals (chain_of (flat_statements stmts)))
    → IsTrue (statement_sound signals (chain_of (flat_statements (drop i stmts))))
sound_from signals stmts zero h = h
sound_from signals [] (suc i) h = h
sound_from signals (s ∷ stmts) (suc i) h =
    sound_from signals stmts i
    (sound_rest signals (flat_statement s) (chain_of (flat_statements stmts)) h)

pub sound_at : (signals : List SignalForm) (stmts : List FStmt) (i : ℕ) (stmt : FStmt)
    → i < length stmts → stmt ≡ get_or stmts i stmt
    → IsTrue (statement_sound signals (chain_of (flat_statements stmts)))
    → IsTrue (statement_sound signals (flat_statement stmt))
sound_at signals stmts i stmt inside is h =
    sound_first signals (flat_statement stmt) (chain_of (flat_statements (drop (i + 1) stmts)))
    (subst (λ b. IsTrue (statement_sound signals b)) (next_statement stmts i stmt inside is)
    (sound_from signals stmts i h))

-- ---- bits

-- the bits of pieces alone
pub only_pieces : (none bits : Bits) (given pieces : List Piece) → given ≡ pieces
    → ((s : ℕ) → mask_in none s ≡ 0)
    → ((s b : ℕ) → in_bits bits s b ≡
    (in_bits none s b || list_any (has_bit s b) (piece_forms given)))
    → (s b : ℕ) → in_bits bits s b ≡ list_any (has_bit s b) (piece_forms pieces)
only_pieces none bits given pieces same empty is s b =
    is s b
    ∙ ap₂ ◌||◌ (nothing_in (mask_in none s) b (empty s))
    (ap (λ ps. list_any (has_bit s b) (piece_forms ps)) same)

pub or_turned : (a b : Bool) → (a || b) ≡ (b || a)
or_turned true true = refl
or_turned true false = refl
or_turned false true = refl
or_turned false false = refl

or_between : (a h r : Bool) → (a || (h || r)) ≡ ((h || a) || r)
or_between true true r = refl
or_between true false r = refl
or_between false true r = refl
or_between false false r = refl

or_three : (a b c : Bool) → ((a || b) || c) ≡ (a || (b || c))
or_three true b c = refl
or_three false b c = refl

or_nothing : (a : Bool) → (a || false) ≡ a
or_nothing true = refl
or_nothing false = refl

-- the bits of a block inside of others
pub bits_inside : (here : Bor Bits) (around : Bor Surrounding) (first second : BitSet)
    → SameBits (in_bits here.now) first → SameBits second (in_surrounding around.now)
    → SameBits (either first second) (in_surrounding (Inside here around))
bits_inside here around first second same_first same_second s b =
    ap₂ ◌||◌ (sym (same_first s b)) (same_second s b)
    ∙ sym (ap (λ (z : BitSet). z s b) (in_surrounding-inside here around))

-- ---- what statements can assign

-- their bits so far, and what is left of the whole
abbrev pub AssignedSoFar : (first now : Bits) → (whole rest : FlatStatement) → Type 0
AssignedSoFar first now whole rest =
    (s b : ℕ) → (in_bits now s b || can_assign rest s b) ≡
    (in_bits first s b || can_assign whole s b)

pub assigned_more : (first now next : Bits) (whole rest one other : FlatStatement)
    → ((s b : ℕ) → can_assign rest s b ≡ (can_assign one s b || can_assign other s b))
    → AddsAssigned now next one → AssignedSoFar first now whole rest
    → AssignedSoFar first next whole other
assigned_more first now next whole rest one other parts adds so_far s b =
    ap (λ t. t || can_assign other s b) (adds s b)
    ∙ or_three (in_bits now s b) (can_assign one s b) (can_assign other s b)
    ∙ ap (λ t. in_bits now s b || t) (sym (parts s b))
    ∙ so_far s b

pub assigned_rest : (first now next : Bits) (whole rest : FlatStatement)
    → AddsAssigned now next rest → AssignedSoFar first now whole rest
    → AddsAssigned first next whole
assigned_rest first now next whole rest adds so_far s b = adds s b ∙ so_far s b

pub assigned_end : (first now : Bits) (whole rest : FlatStatement) → rest ≡ nothing
    → AssignedSoFar first now whole rest → AddsAssigned first now whole
assigned_end first now whole rest none so_far s b =
    sym (or_nothing (in_bits now s b))
    ∙ ap (λ z. in_bits now s b || can_assign z s b) (sym none) ∙ so_far s b

-- the bits of a statement alone
pub only_assigned : (none bits : Bits) (body : FlatStatement) → ((s : ℕ) → mask_in none s ≡ 0)
    → AddsAssigned none bits body → SameBits (in_bits bits) (can_assign body)
only_assigned none bits body empty adds s b =
    adds s b ∙ ap (λ t. t || can_assign body s b) (nothing_in (mask_in none s) b (empty s))

-- ---- reads, forward

-- the statements so far, with the bits that they always assign, and those that are left
pub record ForwardSoFar (signals : List SignalForm) (assigned : Bits) (around : BitSet)
    (all left : FlatStatement) (here : Bits) (found : Option Found) : Type 0 where
  pub reads_are : (body : FlatStatement) (a f : BitSet)
      → HasTargets body assigned → SameBits a around
      → (done : List Breach) × (before : BitSet) × FindsFirst 606 done found
      × (wrong_reads signals body (readings signals all a f) ≡
      done ++ wrong_reads signals body (readings signals left before f))
      × SameBits before (either (in_bits here) around)
  pub bits_are : SameBits (either (in_bits here) (always_assigns left)) (always_assigns all)

module _ (signals : List SignalForm) (assigned : Bits) (around : BitSet) where
  pub forward_begin : (all : FlatStatement) (none : Bits) → ((s : ℕ) → mask_in none s ≡ 0) →
      ForwardSoFar signals assigned around all all none None
  forward_begin all none empty = record {
    reads_are = λ body a f asks same. (
      [],
      a,
      refl,
      refl,
      λ s b. same s b ∙ sym (ap (λ t. t || around s b) (nothing_in (mask_in none s) b (empty s))),
    );
    bits_are =
        λ s b. ap (λ t. t || always_assigns all s b) (nothing_in (mask_in none s) b (empty s));
  }

  pub forward_more : (h : Bor Bits) (r : Bor Surrounding) (all left first rest : FlatStatement)
      (bits more : Bits) (found other next : Option Found) → left ≡ after first rest
      → SameBits (in_surrounding r.now) around
      → FindsReads signals assigned (in_surrounding (Inside h r)) (readings signals first)
      other → SameBits (in_bits bits) (always_assigns first)
      → ((s b : ℕ) → in_bits more s b ≡ (in_bits h.now s b || in_bits bits s b))
      → next ≡ first_found found other
      → ForwardSoFar signals assigned around all left h.now found
      → ForwardSoFar signals assigned around all rest more next
  forward_more h r all left first rest bits more found other next splits scope finds always gains is
      so_far = record {
        reads_are = λ body a f asks same.
            let done = so_far.reads_are body a f asks same in
            let before = done.1 in
            let this = wrong_reads signals body
            (readings signals first before (either (can_assign rest) f)) in
            let later = wrong_reads signals body
            (readings signals rest (either (always_assigns first) before) f) in (
              done.0 ++ this,
              either (always_assigns first) before,
              subst (FindsFirst 606 (done.0 ++ this)) (sym is)
                  (finds_both done.0 this 606 found other done.2
                  (finds body before (either (can_assign rest) f) asks
                  (λ s b. done.4 s b ∙ bits_inside h r (in_bits h.now) around (λ s b. refl) (λ s b.
                  sym (scope s b)) s b))),
              done.3
                  ∙ ap (λ z. done.0 ++ wrong_reads signals body (readings signals z before f))
                  splits
                  ∙ ap (λ z. done.0 ++ z)
                  (wrong_reads-append signals body
                  (readings signals first before (either (can_assign rest) f))
                  (readings signals rest (either (always_assigns first) before) f))
                  ∙ sym (append_assoc done.0 this later),
              λ s b.
                  ap (λ t. always_assigns first s b || t) (done.4 s b)
                  ∙ or_between (always_assigns first s b) (in_bits h.now s b) (around s b)
                  ∙ ap (λ t. t || around s b) (ap (λ t. in_bits h.now s b || t) (sym (always s b))
                  ∙ sym (gains s b)),
            );
        bits_are = λ s b.
            ap (λ t. t || always_assigns rest s b) (gains s b
            ∙ ap (λ t. in_bits h.now s b || t) (always s b))
            ∙ or_three (in_bits h.now s b) (always_assigns first s b) (always_assigns rest s b)
            ∙ ap (λ z. in_bits h.now s b || always_assigns z s b) (sym splits)
            ∙ so_far.bits_are s b;
      }

  pub forward_end : (all left : FlatStatement) (here : Bits) (found : Option Found) → left ≡ nothing
      → ForwardSoFar signals assigned around all left here found
      → FindsReads signals assigned around (readings signals all) found
      × SameBits (in_bits here) (always_assigns all)
  forward_end all left here found none so_far = (
    λ body a f asks same.
        let done = so_far.reads_are body a f asks same in
        subst (λ ws. FindsFirst 606 ws found)
        (sym (done.3 ∙ ap (λ z.
        done.0 ++ wrong_reads signals body (readings signals z done.1 f)) none
        ∙ append-nil done.0)) done.2,
    λ s b. sym (or_nothing (in_bits here s b))
        ∙ ap (λ z. in_bits here s b || always_assigns z s b) (sym none) ∙ so_far.bits_are s b,
  )
