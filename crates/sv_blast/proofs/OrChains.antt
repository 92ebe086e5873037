-- OR chains that go on, member by member, as loops make them.
use Rattle.std.proofs.Common.{◌≡◌, ℕ, ◌≤◌, ◌<◌, ℤ, List, [], ◌∷◌, ◌++◌, refl, sym, ap, ◌∙◌}
use Rattle.std.proofs.Common.{subst, arith, Option, Some, None, IfSome}
use Rattle.sv_gates.specs.Formulas.{Formula, IsLiteral}
use Rattle.sv_gates.specs.Gates.{or_gate}
use Rattle.sv_gates.specs.Extending.{Begins}
use Rattle.sv_gates.proofs.ExtendingLaws.{begins_none, begins_trans}
use Rattle.sv_circuits.specs.declared.bit_gates.BitGate.TheVariants.{Or}
use Rattle.sv_circuits.specs.BitGates.{joined_to}
use Rattle.sv_circuits.specs.Words.{BitMaker, chain_from, or_chain}
use Rattle.sv_circuits.proofs.LoopSteps.{gate_one}
use Rattle.sv_blast.specs.LabelSteps.{joined_member, chain_with, chain_end}

-- ---- growth

-- a piece takes no variable away
abbrev pub Grows : BitMaker → Type 0
Grows make = (f : Formula) → f.variables ≤ ((make f).0).variables

abbrev pub EachGrows : List BitMaker → Type 0
EachGrows [] = Unit {0}
EachGrows (make ∷ makes) = Grows make × EachGrows makes

pub each_join : (xs ys : List BitMaker) → EachGrows xs → EachGrows ys → EachGrows (xs ++ ys)
each_join [] ys first second = second
each_join (x ∷ xs) ys first second = (first.0, each_join xs ys first.1 second)

join_grows : (chain : Option ℤ) (l : ℤ) (f : Formula) →
    f.variables ≤ ((joined_to chain Or l f).0).variables
join_grows None l f = omega arith
join_grows (Some before) l f = omega (arith, gate_one Or before l f)

pub member_grows : (chain : Option ℤ) (make : BitMaker) (f : Formula) → Grows make →
    f.variables ≤ ((joined_member chain make f).0).variables
member_grows chain make f grows =
    let made = make f in
    let first = grows f in
    let second = join_grows chain made.1 made.0 in
    omega (arith, first, second)

-- a member that was made, and the gate that joins it
pub made_full : (chain : Option ℤ) (make : BitMaker) (f : Formula) (most : ℕ) →
    most < ((make f).0).variables → most < ((joined_member chain make f).0).variables
made_full chain make f most h =
    let up = join_grows chain (make f).1 (make f).0 in omega (arith, h, up)

pub chain_grows : (makes : List BitMaker) (chain : Option ℤ) (f : Formula) → EachGrows makes →
    f.variables ≤ ((chain_with chain makes f).0).variables
chain_grows [] chain f each = omega arith
chain_grows (make ∷ makes) chain f each =
    let one = joined_member chain make f in
    let first = member_grows chain make f each.0 in
    let more = chain_grows makes (Some one.1) one.0 each.1 in
    omega (arith, first, more)

-- ---- one member more

pub member_step : (chain : Option ℤ) (make : BitMaker) (makes members : List BitMaker)
    (now later : Formula) (g : ℤ) → members ≡ make ∷ makes →
    joined_member chain make now ≡ (later, g) →
    chain_with chain members now ≡ chain_with (Some g) makes later
member_step chain make makes members now later g e made =
    ap (λ z. chain_with chain z now) e
    ∙ ap (λ (z : Formula × ℤ). chain_with (Some z.1) makes z.0) made

pub member_full : (chain : Option ℤ) (make : BitMaker) (makes members : List BitMaker)
    (now : Formula) (most : ℕ) → members ≡ make ∷ makes → EachGrows makes →
    most < ((joined_member chain make now).0).variables →
    most < ((chain_with chain members now).0).variables
member_full chain make makes members now most e each h =
    let one = joined_member chain make now in
    let up = chain_grows makes (Some one.1) one.0 each in
    subst (λ z. most < ((chain_with chain z now).0).variables) (sym e) (omega (arith, up, h))

-- ---- many members more

chain_join : (xs ys : List BitMaker) (chain : Option ℤ) (f : Formula) →
    chain_with chain (xs ++ ys) f
    ≡ chain_with (chain_with chain xs f).1 ys (chain_with chain xs f).0
chain_join [] ys chain f = refl
chain_join (x ∷ xs) ys chain f =
    let one = joined_member chain x f in chain_join xs ys (Some one.1) one.0

pub join_step : (chain next : Option ℤ) (xs ys members : List BitMaker) (now later : Formula) →
    members ≡ xs ++ ys → chain_with chain xs now ≡ (later, next) →
    chain_with chain members now ≡ chain_with next ys later
join_step chain next xs ys members now later e made =
    ap (λ z. chain_with chain z now) e ∙ chain_join xs ys chain now
    ∙ ap (λ (z : Formula × Option ℤ). chain_with z.1 ys z.0) made

pub join_full : (chain : Option ℤ) (xs ys members : List BitMaker) (now : Formula) (most : ℕ) →
    members ≡ xs ++ ys → EachGrows ys → most < ((chain_with chain xs now).0).variables →
    most < ((chain_with chain members now).0).variables
join_full chain xs ys members now most e each h =
    let first = chain_with chain xs now in
    let up = chain_grows ys first.1 first.0 each in
    subst (λ z. most < ((chain_with chain z now).0).variables) (sym e)
    (subst (λ (z : Formula × Option ℤ). most < (z.0).variables) (sym (chain_join xs ys chain now))
    (omega (arith, up, h)))

-- ---- the end

or_from : (makes : List BitMaker) (before : ℤ) (f : Formula) →
    chain_from or_gate before makes f
    ≡ (
      (chain_with (Some before) makes f).0,
      chain_end (chain_with (Some before) makes f).1,
    )
or_from [] before f = refl
or_from (make ∷ makes) before f =
    let one = make f in
    let two = or_gate before one.1 one.0 in
    or_from makes two.1 two.0

or_is : (makes : List BitMaker) (f : Formula) →
    or_chain makes f ≡ ((chain_with None makes f).0, chain_end (chain_with None makes f).1)
or_is [] f = refl
or_is (make ∷ makes) f = let one = make f in or_from makes one.1 one.0

pub or_done : (makes : List BitMaker) (old now : Formula) (chain : Option ℤ) (g : ℤ) →
    chain_with None makes old ≡ (now, chain) → g ≡ chain_end chain → or_chain makes old ≡ (now, g)
or_done makes old now chain g made e =
    or_is makes old ∙ ap (λ (z : Formula × Option ℤ). (z.0, chain_end z.1)) made
    ∙ ap (λ z. (now, z)) (sym e)

pub or_full : (makes : List BitMaker) (old : Formula) (most : ℕ) →
    most < ((chain_with None makes old).0).variables → most < ((or_chain makes old).0).variables
or_full makes old most h =
    subst (λ (z : Formula × ℤ). most < (z.0).variables) (sym (or_is makes old)) h

pub or_grows : (makes : List BitMaker) (f : Formula) → EachGrows makes →
    f.variables ≤ ((or_chain makes f).0).variables
or_grows makes f each =
    subst (λ (z : Formula × ℤ). f.variables ≤ (z.0).variables) (sym (or_is makes f))
    (chain_grows makes None f each)

-- ---- loops

-- the whole is what is left from the present formula on; the chain so far is of its variables
pub record ChainAt (whole left : Formula × Option ℤ) (old now : Formula) (chain : Option ℤ)
    : Type 0 where
  pub made : whole ≡ left
  pub hand : IfSome chain (IsLiteral now.variables)
  pub begins : Begins old now

pub chain_starts : (whole left : Formula × Option ℤ) (old : Formula) (chain : Option ℤ) →
    whole ≡ left → IfSome chain (IsLiteral old.variables) → ChainAt whole left old old chain
chain_starts whole left old chain e is =
    record { made = e; hand = is; begins = begins_none old }

pub chain_more : (whole left next : Formula × Option ℤ) (old now later : Formula)
    (chain after : Option ℤ) → ChainAt whole left old now chain → left ≡ next →
    Begins now later → IfSome after (IsLiteral later.variables) →
    ChainAt whole next old later after
chain_more whole left next old now later chain after at e up is = record {
  made = at.made ∙ e;
  hand = is;
  begins = begins_trans old now later at.begins up;
}

pub chain_same : (whole left next : Formula × Option ℤ) (old now : Formula) (chain : Option ℤ) →
    ChainAt whole left old now chain → left ≡ next → ChainAt whole next old now chain
chain_same whole left next old now chain at e =
    record { made = at.made ∙ e; hand = at.hand; begins = at.begins }

pub chain_left_full : (whole left : Formula × Option ℤ) (old now : Formula) (chain : Option ℤ)
    (most : ℕ) → ChainAt whole left old now chain → most < (left.0).variables →
    most < (whole.0).variables
chain_left_full whole left old now chain most at h =
    subst (λ (z : Formula × Option ℤ). most < (z.0).variables) (sym at.made) h
