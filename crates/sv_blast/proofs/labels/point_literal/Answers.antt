use Rattle.std.proofs.Common.{◌≡◌, ℕ, ◌+◌, ◌<◌, ◌≤◌, ◌==◌, List, length, get_or, map, false, true, ap, sym}
use Rattle.std.proofs.Common.{◌∙◌, subst, rules}
use Rattle.std.specs.Result.{IsErrOf}
use Rattle.std.proofs.lemmas.Bool.{eq-eqb, ne_eqb}
use Rattle.sv_lattice.specs.declared.points.Point.{Point}
use Rattle.sv_gates.specs.declared.gates.GateFault.TheVariants.{Full}
use Rattle.sv_circuits.specs.Words.{equals_number_bit}
use Rattle.sv_circuits.proofs.WordKeeps.{word_up}
use Rattle.sv_encoding.specs.Labels.{keys_of}
use Rattle.sv_blast.specs.LabelSteps.{chain_with}
use Rattle.sv_blast.proofs.OrChains.{member_step, member_full, chain_more, chain_same}
use Rattle.sv_blast.proofs.OrChains.{chain_left_full, or_done, or_full}
use Rattle.sv_blast.proofs.PointSteps.{key_tests, keys_take, keys_skip, keys_end, keys_grow}
use Rattle.sv_blast.proofs.labels.point_literal.Goals as goal

-- the row of a key
abbrev zero : Point
zero = record { 0 = 0 }

known : (rows items : List Point) (i : ℕ) → items ≡ rows → i < length items → i < length rows
known rows items i e h = subst (λ (z : List Point). i < length z) e h

row_is : (rows items : List Point) (i p : ℕ) → items ≡ rows → (get_or items i zero).0 ≡ p →
    ((get_or rows i zero).0 == p) ≡ true
row_is rows items i p e is =
    eq-eqb _ p (ap (λ (z : List Point). (get_or z i zero).0) (sym e) ∙ is)

row_is_not : (rows items : List Point) (i p : ℕ) → items ≡ rows →
    ((get_or items i zero).0 ≡ p → ⊥) → ((get_or rows i zero).0 == p) ≡ false
row_is_not rows items i p e differs =
    ne_eqb _ p (λ same. differs (ap (λ (z : List Point). (get_or z i zero).0) e ∙ same))

pub keys-preserved-then-row-point : goal.keys-preserved-then-row-point
keys-preserved-then-row-point c =
    let rows = c.rows-row-items.ensures.rows in
    chain_same _ _ _ _ _ _ c.keys.invariant
    (ap (λ z. chain_with c.keys.chain z c.keys.gates)
    (keys_skip c.args.table.now c.args.selector.now c.args.point.0 c.keys.key
    (known _ _ _ rows c.keys-test.true) (row_is_not _ _ _ _ rows c.if-row-point.true)))

pub or_equal-requires-clause-word : goal.or_equal-requires-clause-word
or_equal-requires-clause-word c =
    word_up _ _ c.args.selector.now c.keys.invariant.begins.grows c.requires

pub returns-in_err-member-clause-full : goal.returns-in_err-member-clause-full
returns-in_err-member-clause-full c =
    let same : IsErrOf c.from_residual.result Full → IsErrOf c.or_equal.result Full =
    search rules in
    let table = c.args.table.now in
    let selector = c.args.selector.now in
    let rows = c.rows-row-items.ensures.rows in
    λ e. or_full (map (equals_number_bit selector) (keys_of table c.args.point.0))
    c.args.gates.now _ (chain_left_full _ _ _ _ _ _ c.keys.invariant
    (member_full c.keys.chain (equals_number_bit selector c.keys.key)
    (key_tests table selector c.args.point.0 (c.keys.key + 1))
    (key_tests table selector c.args.point.0 c.keys.key) c.keys.gates _
    (keys_take table selector c.args.point.0 c.keys.key (known _ _ _ rows c.keys-test.true)
    (row_is _ _ _ _ rows c.if-row-point.false))
    (keys_grow table selector c.args.point.0 (c.keys.key + 1))
    (c.or_equal.ensures.full (same e))))

pub keys-preserved : goal.keys-preserved
keys-preserved c =
    let table = c.args.table.now in
    let selector = c.args.selector.now in
    let rows = c.rows-row-items.ensures.rows in
    chain_more _ _ _ _ _ _ _ _ c.keys.invariant
    (member_step c.keys.chain (equals_number_bit selector c.keys.key)
    (key_tests table selector c.args.point.0 (c.keys.key + 1))
    (key_tests table selector c.args.point.0 c.keys.key) c.keys.gates c.or_equal.new.gates
    c.in_ok-member.member
    (keys_take table selector c.args.point.0 c.keys.key (known _ _ _ rows c.keys-test.true)
    (row_is _ _ _ _ rows c.if-row-point.false))
    c.in_ok-member.ensures.made)
    c.in_ok-member.ensures.begins c.in_ok-member.ensures.within

pub returns-clause-made : goal.returns-clause-made
returns-clause-made c =
    let table = c.args.table.now in
    let selector = c.args.selector.now in
    let rows = c.rows-row-items.ensures.rows in
    let past : length table.rows ≤ c.keys.key =
    subst (λ (z : List Point). length z ≤ c.keys.key) rows c.keys-test.false in
    or_done (map (equals_number_bit selector) (keys_of table c.args.point.0)) c.args.gates.now
    c.keys.gates c.keys.chain c.chain_end.result
    (c.keys.invariant.made ∙ ap (λ z. chain_with c.keys.chain z c.keys.gates)
    (keys_end table selector c.args.point.0 c.keys.key past))
    c.chain_end.ensures.value
