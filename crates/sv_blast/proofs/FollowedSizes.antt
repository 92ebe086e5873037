-- How many gates the words of all followed signals take, statement by statement.
use Rattle.std.proofs.Common.{◌≡◌, ℕ, ◌+◌, ◌≤◌, List, filter, min, refl}
use Rattle.std.proofs.Common.{sym, ap, ◌∙◌, arith}
use Rattle.std.specs.Prelude.{IsTrue, IsFalse}
use Rattle.std.proofs.lemmas.Bool.{or_left, or_right}
use Rattle.sv_num.specs.declared.faults.Place.{Place}
use Rattle.sv_flat.specs.Design.{SignalForm, TypedTree, FlatStatement, nothing, after, assign, branch}
use Rattle.sv_flat.specs.Assigned.{assigns}
use Rattle.sv_obl.specs.Wanted.{with_copies}
use Rattle.sv_obl.proofs.PathLists.{cond_true, cond_false}
use Rattle.sv_encoding.specs.Bodies.{assigns_some}
use Rattle.sv_encoding.specs.Sizes.{expression_size, statement_size, truth_size, widths_of}
use Rattle.sv_blast.proofs.FollowedSteps.{fewer_pass}

module _ (signals : List SignalForm) (followed : List ℕ) where
  abbrev size : FlatStatement → ℕ
  size b = statement_size signals followed b

  -- a statement that assigns no followed signal
  size_passed : (b : FlatStatement) → IsFalse (assigns_some followed b) →
      statement_size signals followed b ≡ 0
  size_passed nothing none = refl
  size_passed (after x y) none =
      let one = size_passed x (fewer_pass (assigns x) (assigns (after x y)) followed
      (λ s own. or_left (assigns x s) (assigns y s) own) none) in
      let two = size_passed y (fewer_pass (assigns y) (assigns (after x y)) followed
      (λ s own. or_right (assigns x s) (assigns y s) own) none) in
      omega (arith, one, two)
  size_passed (assign pieces place blocking right) none =
      cond_false (assigns_some followed (assign pieces place blocking right))
      (expression_size (with_copies signals) right) 0 none
  size_passed (branch place condition x y) none =
      cond_false (assigns_some followed (branch place condition x y))
      (truth_size (with_copies signals) condition + size x + size y
      + widths_of signals (filter (assigns (branch place condition x y)) followed)) 0 none

  -- the gates so far and those of what is left come to the whole, up to one over the most
  abbrev pub SizeAt : (whole total : ℕ) → FlatStatement → Type 0
  SizeAt whole total rest =
      (min (total + statement_size signals followed rest) 4194305 ≡ min whole 4194305)
      × (total ≤ 4194305)

  pub size_ends : (whole total : ℕ) (rest : FlatStatement) → SizeAt whole total rest →
      IsFalse (assigns_some followed rest) → total ≡ min whole 4194305
  size_ends whole total rest at none =
      let passed = size_passed rest none in omega (arith, at.0, at.1, passed)

  pub size_of_chain : (whole total next first : ℕ) (x y : FlatStatement) →
      SizeAt whole total (after x y) → first ≡ min (statement_size signals followed x) 4194305 →
      next ≡ min (total + first) 4194305 → SizeAt whole next y
  size_of_chain whole total next first x y at one is =
      let here : min (total + (size x + size y)) 4194305 ≡ min whole 4194305 = at.0 in
      (omega (arith, here, one, is), omega (arith, is))

  pub size_of_branch : (whole total next more arm : ℕ) (place : Place) (condition : TypedTree)
      (x y : FlatStatement) → SizeAt whole total (branch place condition x y) →
      IsTrue (assigns_some followed (branch place condition x y)) →
      arm ≡ min (statement_size signals followed x) 4194305 →
      more ≡ min (truth_size (with_copies signals) condition + arm
      + widths_of signals (filter (assigns (branch place condition x y)) followed)) 4194305 →
      next ≡ min (total + more) 4194305 → SizeAt whole next y
  size_of_branch whole total next more arm place condition x y at some one is added =
      let assigned = filter (assigns (branch place condition x y)) followed in
      let parts = truth_size (with_copies signals) condition + size x + size y
      + widths_of signals assigned in
      let here : min (total + parts) 4194305 ≡ min whole 4194305 =
      sym (ap (λ k. min (total + k) 4194305)
      (cond_true (assigns_some followed (branch place condition x y)) parts 0 some)) ∙ at.0 in
      (omega (arith, here, one, is, added), omega (arith, added))

  -- nothing is left
  pub size_done : (whole total : ℕ) → SizeAt whole total nothing → total ≡ min whole 4194305
  size_done whole total at =
      let here : min (total + 0) 4194305 ≡ min whole 4194305 = at.0 in omega (arith, here, at.1)

  -- the last part
  pub size_last : (whole total last result : ℕ) (rest : FlatStatement) → SizeAt whole total rest →
      last ≡ min (statement_size signals followed rest) 4194305 →
      result ≡ min (total + last) 4194305 → result ≡ min whole 4194305
  size_last whole total last result rest at one is = omega (arith, at.0, one, is)
