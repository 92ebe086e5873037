-- The items with `assign`, `always` and `invariant` are what their symbols stand for.
use Rattle.std.proofs.Common.{List, [], ◌∷◌, Option, Some, None, inl, inr, refl, subst}
use Rattle.sv_num.specs.declared.faults.Place.{Place}
use Rattle.sv_token.specs.declared.keywords.WordKind.TheVariants as words
use Rattle.sv_token.specs.declared.signs.SignKind.TheVariants as signs
use Rattle.sv_token.specs.Lexemes.{Placed}
use Rattle.sv_ast.specs.Tree.{whole, TargetTree, PlacedName, ItemTree, continuous, released}
use Rattle.sv_ast.specs.Tree.{always_item, invariant_item}
use Rattle.sv_ast.specs.GrammarForms.{Form, ◌⨾◌, ◌or◌, a_word, a_sign}
use Rattle.sv_ast.specs.GrammarExpressions.{Limits}
use Rattle.sv_ast.specs.GrammarStatements.{AreTargets, BeginAt, only}
use Rattle.sv_ast.specs.GrammarModules.{IsWholeTarget, IsContinuous, AreContinuous, IsReleased}
use Rattle.sv_ast.specs.GrammarModules.{IsEvent, IsAlways, place_of, IsInvariant, IsItem}
use Rattle.sv_parse_machine.proofs.ExpressionForms.{Next, ends_name, ends_tail, expression_form}
use Rattle.sv_parse_machine.proofs.OuterForms.{some_name, more_names_form, later_assigned_form}
use Rattle.sv_parse_machine.proofs.OuterForms.{more_assigned_form, assigned_form, event_inside_form}
use Rattle.sv_parse_machine.proofs.OuterForms.{event_form, statement_form}
use Rattle.sv_parse_machine.proofs.StatementSteps.{value_up_to, value_before, next_later}
use Rattle.sv_parse_machine.proofs.StatementForms.{expression_tree}
use Rattle.sv_parse_machine.proofs.ListTrees.{Any, Follows, f_later, b_later}

-- the items that stand here
abbrev pub SomeItem : Limits → List Placed → List Placed → Type 0
SomeItem l ts rest = (items : List ItemTree) × IsItem l items ts rest

-- ---- `always`

abbrev pub always_row : Limits → Form
always_row l = a_word words.Always ⨾ a_sign signs.At ⨾ event_form l ⨾ statement_form l 0

f_event : (l : Limits) (clock : Option PlacedName) (ts rest : List Placed) → IsEvent clock ts rest →
    event_form l ts rest
f_event l None ts rest (inl star) = inl (rest, star, refl)
f_event l None ts rest (inr (m, opens, (m1, star, close))) =
    inr (m, opens, (rest, inl (m1, star, (rest, close, refl)), refl))
f_event l (Some c) ts rest (m, opens, (m1, (m2, edge, name), close)) =
    inr (
      m,
      opens,
      (
        rest,
        inr
            (m2, edge, (m1, (c.name, (c.place, name)), (rest, close, refl))),
        refl,
      ),
    )

abbrev Event : List Placed → List Placed → Type 0
Event ts rest = (clock : Option PlacedName) × IsEvent clock ts rest

b_event_inside : (l : Limits) (ts m rest : List Placed) → a_sign signs.OpenParenthesis ts m →
    event_inside_form l m rest → Event ts rest
b_event_inside l ts m rest opens (inl (m1, star, (m2, close, same))) =
    subst (Event ts) same (None, inr (m, opens, (m1, star, close)))
b_event_inside l ts m rest opens (inr (m2, edge, (m1, (x, (p, name)), (m3, close, same)))) =
    subst (Event ts) same
    (Some (record { name = x; place = p }), (m, opens, (m1, (m2, edge, name), close)))

b_event : (l : Limits) (ts rest : List Placed) → event_form l ts rest → Event ts rest
b_event l ts rest (inl (m, star, same)) = subst (Event ts) same (None, inl star)
b_event l ts rest (inr (m, opens, (m1, inside, same))) =
    subst (Event ts) same (b_event_inside l ts m m1 opens inside)

f_one_always : (l : Limits) (item : ItemTree) (ts rest : List Placed) → IsAlways l item ts rest →
    always_row l ts rest
f_one_always l (always_item p clock s) ts rest (m, starts, (m1, at, (m2, event, is))) =
    (m, (p, starts), (m1, at, (m2, f_event l clock m1 m2 event, (s, is))))
f_one_always l _ ts rest never = absurd never

pub f_always : (l : Limits) (items : List ItemTree) (ts rest : List Placed) →
    only (IsAlways l) items ts rest → always_row l ts rest
f_always l [] ts rest never = absurd never
f_always l (item ∷ []) ts rest is = f_one_always l item ts rest is
f_always l (item ∷ another ∷ more) ts rest never = absurd never

pub b_always : (l : Limits) (ts rest : List Placed) → always_row l ts rest → SomeItem l ts rest
unfolding IsItem
b_always l ts rest (m, (p, starts), (m1, at, (m2, event, (s, is)))) =
    let clock = b_event l m1 m2 event in
    (always_item p clock.0 s ∷ [], inl (m, starts, (m1, at, (m2, clock.1, is))))

-- ---- `invariant`

abbrev pub invariant_row : Limits → Form
invariant_row l = a_word words.Invariant ⨾ expression_form l 0 ⨾ a_sign signs.Semicolon

f_one_invariant : (l : Limits) (item : ItemTree) (ts mid rest : List Placed)
    → IsInvariant l item ts mid → a_sign signs.Semicolon mid rest
    → invariant_row l ts rest
f_one_invariant l (invariant_item p e) ts mid rest (at, (m, starts, is)) close =
    (m, starts, (mid, value_before l 0 e signs.Semicolon m mid rest tt tt is close, close))
f_one_invariant l _ ts mid rest never close = absurd never

pub f_invariant : (l : Limits) (items : List ItemTree) (ts rest : List Placed)
    → (only (IsInvariant l) items ⨾ a_sign signs.Semicolon) ts rest
    → invariant_row l ts rest
f_invariant l [] ts rest (m, never, close) = absurd never
f_invariant l (item ∷ []) ts rest (m, is, close) = f_one_invariant l item ts m rest is close
f_invariant l (item ∷ another ∷ more) ts rest (m, never, close) = absurd never

pub b_invariant : (l : Limits) (ts rest : List Placed) → invariant_row l ts rest →
    SomeItem l ts rest
unfolding IsItem
b_invariant l ts rest (m, starts, (m1, is, close)) =
    let tree = expression_tree l 0 m m1 is in (
      invariant_item (place_of tree.0) tree.0 ∷ [],
      inr
          (m1, inr (inr (inr (inr (inr (inl (refl, (m, starts, tree.1))))))), close),
    )

-- ---- `assign`

abbrev pub assigned_row : Limits → Form
assigned_row l = a_word words.Assign ⨾ assigned_form l

f_one_released : (l : Limits) (item : ItemTree) (ts mid rest : List Placed) →
    IsReleased l item ts mid → a_sign signs.Semicolon mid rest → assigned_row l ts rest
f_one_released l (released target e point) ts mid rest (
  m,
  starts,
  (
    m1,
    name,
    (m2, sets, (m3, release, (m4, opens, (m7, (m5, is, (m6, comma, to)), close)))),
  ),
)
    semicolon = (
      m,
      starts,
      inl (
        m1,
        (target.name, (target.place, name)),
        (
          m2,
          sets,
          (
            rest,
            inl (
              m3,
              release,
              (
                m4,
                opens,
                (
                  m5,
                  value_before l 0 e signs.Comma m4 m5 m6 tt tt is comma,
                  (
                    m6,
                    comma,
                    (
                      m7,
                      (point.name, (point.place, to)),
                      (mid, close, (rest, semicolon, refl)),
                    ),
                  ),
                ),
              ),
            ),
            refl,
          ),
        ),
      ),
    )
f_one_released l _ ts mid rest never semicolon = absurd never

pub f_released : (l : Limits) (items : List ItemTree) (ts rest : List Placed) →
    (only (IsReleased l) items ⨾ a_sign signs.Semicolon) ts rest → assigned_row l ts rest
f_released l [] ts rest (m, never, close) = absurd never
f_released l (item ∷ []) ts rest (m, is, close) = f_one_released l item ts m rest is close
f_released l (item ∷ another ∷ more) ts rest (m, never, close) = absurd never

-- the targets of an item, whole signals: one, or several in braces
abbrev braces_form : Limits → Form
braces_form l = a_sign signs.OpenBrace ⨾ some_name ⨾ more_names_form l signs.CloseBrace

abbrev targets_form : Limits → Form
targets_form l = some_name or braces_form l

abbrev LaterTarget : TargetTree → TargetTree → Form
LaterTarget before = IsWholeTarget

f_target : (a b : TargetTree) (ts rest : List Placed) → Any a → LaterTarget a b ts rest →
    Follows signs.CloseBrace rest → Any b × some_name ts rest
f_target a b ts rest known (selected, name) follows = (tt, (b.name, (b.place, name)))

f_targets : (l : Limits) (targets : List TargetTree) (ts rest : List Placed) →
    AreTargets IsWholeTarget targets ts rest → targets_form l ts rest
f_targets l [] ts rest (inl never) = absurd never
f_targets l (a ∷ []) ts rest (inl (selected, name)) = inl (a.name, (a.place, name))
f_targets l (a ∷ b ∷ bs) ts rest (inl never) = absurd never
f_targets l [] ts rest (inr (m, brace, (m1, never, close))) = absurd never
f_targets l (a ∷ bs) ts rest (inr (m, brace, (m1, (m2, (selected, name), others), close))) =
    inr (
      m,
      brace,
      (
        m2,
        (a.name, (a.place, name)),
        f_later LaterTarget some_name Any signs.CloseBrace f_target a bs m2 rest tt
            (m1, others, close),
      ),
    )

abbrev Targets : List Placed → List Placed → Type 0
Targets ts rest =
    (targets : List TargetTree) × (p : Place) × BeginAt p targets
    × AreTargets IsWholeTarget targets ts rest

b_target : (a : TargetTree) (ts rest : List Placed) → Any a → some_name ts rest →
    (b : TargetTree) × Any b × LaterTarget a b ts rest
b_target a ts rest known (x, (p, name)) =
    (record { name = x; place = p; selection = whole }, tt, (refl, name))

b_one_target : (ts rest : List Placed) → some_name ts rest → Targets ts rest
b_one_target ts rest (x, (p, name)) =
    (record { name = x; place = p; selection = whole } ∷ [], p, refl, inl (refl, name))

b_braces : (l : Limits) (ts rest : List Placed) → braces_form l ts rest → Targets ts rest
b_braces l ts rest (m, brace, (m1, (x, (p, name)), (k, (m2, others, close)))) =
    let a : TargetTree = record { name = x; place = p; selection = whole } in
    let bs = b_later LaterTarget some_name Any signs.CloseBrace b_target a k m1 m2 rest tt others
    close in
    (a ∷ bs.0, p, refl, inr (m, brace, (bs.1.0, (m1, (refl, name), bs.1.1), bs.1.2)))

-- targets, `=` and a value
abbrev assignment_form : Limits → Form
assignment_form l = targets_form l ⨾ a_sign signs.Equals ⨾ expression_form l 0

f_assignment : (l : Limits) (item : ItemTree) (ts rest : List Placed) → IsContinuous l item ts rest
    → Next ends_name rest → Next ends_tail rest
    → assignment_form l ts rest
f_assignment l (continuous targets p e) ts rest (at, (m, are, (m1, sets, is))) name_ends tail_ends =
    (m, f_targets l targets ts m are, (m1, sets, value_up_to l 0 e m1 rest name_ends tail_ends is))
f_assignment l _ ts rest never name_ends tail_ends = absurd never

abbrev LaterAssigned : Limits → ItemTree → ItemTree → Form
LaterAssigned l before = IsContinuous l

f_later_form : (l : Limits) (ts rest : List Placed) → assignment_form l ts rest →
    later_assigned_form l ts rest
f_later_form l ts rest (m, inl name, (m1, sets, is)) = inl (m, name, (m1, sets, (rest, is, refl)))
f_later_form l ts rest (m, inr (m2, brace, (m3, name, others)), (m1, sets, is)) =
    inr (m2, brace, (m3, name, (m, others, (m1, sets, (rest, is, refl)))))

f_later_assigned : (l : Limits) (a b : ItemTree) (ts rest : List Placed) → Any a
    → LaterAssigned l a b ts rest → Follows signs.Semicolon rest
    → Any b × later_assigned_form l ts rest
f_later_assigned l a b ts rest known is follows = (
  tt,
  f_later_form l ts rest
      (f_assignment l b ts rest is (follows ends_name tt tt) (follows ends_tail tt tt)),
)

f_first_assigned : (l : Limits) (ts mid rest : List Placed) → assignment_form l ts mid →
    more_assigned_form l mid rest → assigned_form l ts rest
f_first_assigned l ts mid rest (m, inl name, (m1, sets, is)) others =
    inl (m, name, (m1, sets, (rest, inr (mid, is, (rest, others, refl)), refl)))
f_first_assigned l ts mid rest (m, inr (m2, brace, (m3, name, further)), (m1, sets, is)) others =
    inr (m2, brace, (m3, name, (m, further, (m1, sets, (mid, is, (rest, others, refl))))))

pub f_continuous : (l : Limits) (items : List ItemTree) (ts rest : List Placed) →
    (AreContinuous l items ⨾ a_sign signs.Semicolon) ts rest → assigned_row l ts rest
f_continuous l [] ts rest (m, (m1, starts, never), close) = absurd never
f_continuous l (a ∷ bs) ts rest (m, (m1, starts, (m2, is, others)), close) =
    let follows : Follows signs.Semicolon m2 = λ Q first second.
    next_later Q (LaterAssigned l) a bs signs.Semicolon m2 rest first second
    (m, others, close) in (
      m1,
      starts,
      f_first_assigned l m1 m2 rest
          (f_assignment l a m1 m2 is (follows ends_name tt tt) (follows ends_tail tt tt))
          (f_later (LaterAssigned l) (later_assigned_form l) Any signs.Semicolon
          (f_later_assigned l) a bs m2 rest tt (m, others, close)),
    )

abbrev Continuous : Limits → List Placed → List Placed → Type 0
Continuous l ts rest = (item : ItemTree) × IsContinuous l item ts rest

b_assignment : (l : Limits) (ts m m1 rest : List Placed) → Targets ts m → a_sign signs.Equals m m1 →
    expression_form l 0 m1 rest → Continuous l ts rest
b_assignment l ts m m1 rest (targets, p, at, are) sets is =
    let tree = expression_tree l 0 m1 rest is in
    (continuous targets p tree.0, (at, (m, are, (m1, sets, tree.1))))

abbrev LaterItem : Limits → ItemTree → List Placed → List Placed → Type 0
LaterItem l a ts rest = (b : ItemTree) × Any b × LaterAssigned l a b ts rest

b_later_assigned : (l : Limits) (a : ItemTree) (ts rest : List Placed) → Any a →
    later_assigned_form l ts rest → LaterItem l a ts rest
b_later_assigned l a ts rest known (inl (m, name, (m1, sets, (m2, is, same)))) =
    let item = b_assignment l ts m m1 m2 (b_one_target ts m name) sets is in
    subst (LaterItem l a ts) same (item.0, tt, item.1)
b_later_assigned l a ts rest known
    (inr (m2, brace, (m3, name, (m, others, (m1, sets, (m4, is, same)))))) =
    let item = b_assignment l ts m m1 m4 (b_braces l ts m (m2, brace, (m3, name, others)))
    sets is in
    subst (LaterItem l a ts) same (item.0, tt, item.1)

b_continuous : (l : Limits) (ts m mid rest : List Placed) → a_word words.Assign ts m →
    Continuous l m mid → more_assigned_form l mid rest → SomeItem l ts rest
unfolding IsItem
b_continuous l ts m mid rest starts (a, is) (k, (m1, others, close)) =
    let bs = b_later (LaterAssigned l) (later_assigned_form l) Any signs.Semicolon
    (b_later_assigned l) a k mid m1 rest tt others close in
    (a ∷ bs.0, inr (bs.1.0, inr (inr (inr (inl (m, starts, (mid, is, bs.1.1))))), bs.1.2))

pub b_assigned : (l : Limits) (ts rest : List Placed) → assigned_row l ts rest → SomeItem l ts rest
unfolding IsItem
b_assigned l ts rest (
  m,
  starts,
  inr (
    m2,
    brace,
    (m3, name, (m4, further, (m5, sets, (m6, is, (m7, others, same))))),
  ),
) =
    let first = b_assignment l m m4 m5 m6 (b_braces l m m4 (m2, brace, (m3, name, further)))
    sets is in
    subst (SomeItem l ts) same (b_continuous l ts m m6 m7 starts first others)
b_assigned l ts rest
    (m, starts, inl (m1, name, (m2, sets, (m3, inr (m4, is, (m5, others, inner)), same)))) =
    let first = b_assignment l m m1 m2 m4 (b_one_target m m1 name) sets is in
    subst (SomeItem l ts) same
    (subst (SomeItem l ts) inner (b_continuous l ts m m4 m5 starts first others))
b_assigned l ts rest (
  m,
  starts,
  inl (
    m1,
    (x, (p, name)),
    (
      m2,
      sets,
      (
        m8,
        inl (
          m3,
          release,
          (
            m4,
            opens,
            (m5, is, (m6, comma, (m7, (y, (q, to)), (m9, close, (m10, semicolon, inner))))),
          ),
        ),
        same,
      ),
    ),
  ),
) =
    let tree = expression_tree l 0 m4 m5 is in
    subst (SomeItem l ts) same (subst (SomeItem l ts) inner (
      released (record { name = x; place = p }) tree.0 (record { name = y; place = q }) ∷ [],
      inr (
        m9,
        inr
            (inr
            (inr
            (inr (inl (
              m,
              starts,
              (
                m1,
                name,
                (
                  m2,
                  sets,
                  (m3, release, (m4, opens, (m7, (m5, tree.1, (m6, comma, to)), close))),
                ),
              ),
            ))))),
        semicolon,
      ),
    ))
