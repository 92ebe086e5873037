-- Parameters, wires, registers and memories among the items of a module are what their symbols
-- stand for.
use Rattle.std.proofs.Common.{◌≡◌, ℕ, zero, suc, Bool, true, false, List, [], ◌∷◌, Option, Some}
use Rattle.std.proofs.Common.{None, ◌⊎◌, inl, inr, refl, sym, subst, ◌∙◌}
use Rattle.sv_num.specs.declared.faults.Place.{Place}
use Rattle.sv_token.specs.declared.keywords.WordKind.TheVariants as words
use Rattle.sv_token.specs.declared.signs.SignKind.TheVariants as signs
use Rattle.sv_token.specs.Lexemes.{Lexeme, sign, Placed}
use Rattle.sv_ast.specs.declared.declarations.DeclKind.{DeclKind}
use Rattle.sv_ast.specs.declared.declarations.DeclKind.TheVariants as kinds
use Rattle.sv_ast.specs.Tree.{ExpressionTree, LabelTree, point_label, table_label, DeclarationTree}
use Rattle.sv_ast.specs.Tree.{ParameterTree, MemoryLabelTree, memory_point, by_index, MemoryTree}
use Rattle.sv_ast.specs.GrammarForms.{Form, ◌⨾◌, ◌or◌, given, perhaps, name_at, a_word, a_sign}
use Rattle.sv_ast.specs.GrammarForms.{later}
use Rattle.sv_ast.specs.GrammarExpressions.{Limits}
use Rattle.sv_ast.specs.GrammarDeclarations.{IsLabel, IsTyped, equals, parameter_word}
use Rattle.sv_ast.specs.GrammarDeclarations.{IsLaterParameter, AreParameters, AreAlike}
use Rattle.sv_ast.specs.GrammarDeclarations.{IsSignalKind, IsSignalValue, IsNamedSignal, AreSignals}
use Rattle.sv_ast.specs.GrammarDeclarations.{IsMemoryLabel, IsMemory}
use Rattle.sv_ast.specs.GrammarStatements.{only}
use Rattle.sv_parse_machine.specs.ModuleTable.{perhaps_value_on}
use Rattle.sv_parse_machine.specs.ModuleTable.{perhaps_second_name_on}
use Rattle.sv_parse_machine.proofs.ExpressionForms.{Next, ends_name, ends_tail, expression_form}
use Rattle.sv_parse_machine.proofs.OuterForms.{IsOver, some_name, some_number, more_names_form}
use Rattle.sv_parse_machine.proofs.OuterForms.{parameter_type_form, more_parameters_form}
use Rattle.sv_parse_machine.proofs.OuterForms.{perhaps_signed_form, perhaps_range_form}
use Rattle.sv_parse_machine.proofs.OuterForms.{perhaps_label_form, perhaps_value_form, more_wires_form}
use Rattle.sv_parse_machine.proofs.OuterForms.{behind_reg_name_form, label_selector_form}
use Rattle.sv_parse_machine.proofs.OuterForms.{reg_label_end_form, reg_label_form}
use Rattle.sv_parse_machine.proofs.StatementSteps.{value_up_to, next_later}
use Rattle.sv_parse_machine.proofs.StatementForms.{expression_tree}
use Rattle.sv_parse_machine.proofs.TreeParts.{typed_parameter, declared_tree}
use Rattle.sv_parse_machine.proofs.ListTrees.{next_sign, next_name, Any, Follows, f_later, b_later}
use Rattle.sv_parse_machine.proofs.TypeTrees.{b_signed, f_signed_range, b_range}
use Rattle.sv_parse_machine.proofs.TypeTrees.{f_second_name, b_second_name, next_label, f_typed, b_label}
use Rattle.sv_parse_machine.proofs.TypeTrees.{f_parameter_type, b_parameter_type, named_parameter_form}
use Rattle.sv_parse_machine.proofs.TypeTrees.{f_named_parameter, b_named_parameter}

-- ---- parameters

-- behind the word
abbrev parameters_behind : Limits → Form
parameters_behind l =
    parameter_type_form l ⨾ some_name ⨾ a_sign signs.Equals ⨾ expression_form l 0
    ⨾ more_parameters_form l

abbrev pub parameters_form : Limits → Form
parameters_form l =
    (a_word words.Parameter ⨾ parameters_behind l)
    or (a_word words.Localparam ⨾ parameters_behind l)

f_word : (l : Limits) (local : Bool) (ts m rest : List Placed) →
    a_word (parameter_word local) ts m → parameters_behind l m rest → parameters_form l ts rest
f_word l true ts m rest is behind = inr (m, is, behind)
f_word l false ts m rest is behind = inl (m, is, behind)

f_later_parameter : (l : Limits) (a b : ParameterTree) (ts rest : List Placed) → Any a
    → IsLaterParameter l a b ts rest → Follows signs.Semicolon rest
    → Any b × named_parameter_form l ts rest
f_later_parameter l a b ts rest known (same, named) follows =
    (tt, f_named_parameter l b ts rest named (follows ends_name tt tt) (follows ends_tail tt tt))

pub f_parameters : (l : Limits) (qs : List ParameterTree) (ts rest : List Placed) →
    (AreParameters l qs ⨾ a_sign signs.Semicolon) ts rest → parameters_form l ts rest
f_parameters l [] ts rest (m, never, final) = absurd never
f_parameters l (q ∷ qs) ts rest (m, (m1, (m2, is, (m3, type, named)), others), final) =
    let (m4, name, (m5, sets, value)) = f_named_parameter l q m3 m1 named
    (next_later ends_name (IsLaterParameter l) q qs signs.Semicolon m1 rest tt tt
    (m, others, final))
    (next_later ends_tail (IsLaterParameter l) q qs signs.Semicolon m1 rest tt tt
    (m, others, final)) in
    let further = f_later (IsLaterParameter l) (named_parameter_form l) Any signs.Semicolon
    (f_later_parameter l) q qs m1 rest tt (m, others, final) in
    f_word l q.local ts m2 rest is (
      m3,
      f_parameter_type l q.signed q.span m2 m3 m4 type name,
      (m4, name, (m5, sets, (m1, value, further))),
    )

abbrev NextParameter : Limits → ParameterTree → List Placed → List Placed → Type 0
NextParameter l a ts rest = (b : ParameterTree) × Any b × IsLaterParameter l a b ts rest

b_later_parameter : (l : Limits) (a : ParameterTree) (ts rest : List Placed) → Any a →
    named_parameter_form l ts rest → NextParameter l a ts rest
b_later_parameter l a ts rest known is =
    let named = b_named_parameter l ts rest is in
    let next : ParameterTree = record a { name = named.0; place = named.1; value = named.2 } in
    (next, tt, ((refl, refl, refl), named.3))

abbrev pub Parameters : Limits → List Placed → List Placed → Type 0
Parameters l ts rest =
    (qs : List ParameterTree) × (AreParameters l qs ⨾ a_sign signs.Semicolon) ts rest

b_parameters_of : (l : Limits) (local : Bool) (ts m rest : List Placed) →
    a_word (parameter_word local) ts m → parameters_behind l m rest → Parameters l ts rest
b_parameters_of l local ts m rest is
    (m1, type, (m2, name, (m3, sets, (m4, value, (k, (m5, others, final)))))) =
    let types = b_parameter_type l m m1 type in
    let named = b_named_parameter l m1 m4 (m2, name, (m3, sets, value)) in
    let q : ParameterTree =
    typed_parameter local types.0 types.1 named.0 named.1 named.2 in
    let further = b_later (IsLaterParameter l) (named_parameter_form l) Any signs.Semicolon
    (b_later_parameter l) q k m4 m5 rest tt others final in
    (q ∷ further.0, (further.1.0, (m4, (m, is, (m1, types.2, named.3)), further.1.1), further.1.2))

pub b_parameters : (l : Limits) (ts rest : List Placed) → parameters_form l ts rest →
    Parameters l ts rest
b_parameters l ts rest (inl (m, is, behind)) = b_parameters_of l false ts m rest is behind
b_parameters l ts rest (inr (m, is, behind)) = b_parameters_of l true ts m rest is behind

-- ---- wires

abbrev pub wires_form : Limits → Form
wires_form l =
    a_word words.Wire ⨾ perhaps_signed_form l ⨾ perhaps_range_form l ⨾ perhaps_label_form l
    ⨾ some_name ⨾ perhaps_value_form l ⨾ more_wires_form l

abbrev named_wire_form : Limits → Form
named_wire_form l = some_name ⨾ perhaps_value_form l

abbrev LaterSignal : Limits → DeclarationTree → DeclarationTree → Form
LaterSignal l before d = given (AreAlike before d) (IsNamedSignal l d)

abbrev IsOfKind : DeclKind → DeclarationTree → Type 0
IsOfKind k d = d.kind ≡ k

f_value : (l : Limits) (v : Option ExpressionTree) (ts rest : List Placed) →
    perhaps (equals l) v ts rest → Follows signs.Semicolon rest → perhaps_value_form l ts rest
f_value l None ts rest same follows =
    inl (
      subst (Next (λ x. IsOver (perhaps_value_on x))) (sym same)
          (follows (λ x. IsOver (perhaps_value_on x)) tt tt),
      same,
    )
f_value l (Some e) ts rest (m, sets, value) follows =
    inr (
      m,
      sets,
      (
        rest,
        value_up_to l 0 e m rest (follows ends_name tt tt)
            (follows ends_tail tt tt) value,
        refl,
      ),
    )

f_named_wire : (l : Limits) (d : DeclarationTree) (ts rest : List Placed) → d.kind ≡ kinds.Wire
    → IsNamedSignal l d ts rest → Follows signs.Semicolon rest
    → named_wire_form l ts rest
f_named_wire l d ts rest kind (m, name, value) follows = (
  m,
  (d.name, (d.place, name)),
  f_value l d.value m rest
      (subst (λ k. IsSignalValue l k d.value m rest) kind value) follows,
)

f_later_wire : (l : Limits) (a b : DeclarationTree) (ts rest : List Placed) → IsOfKind kinds.Wire a
    → LaterSignal l a b ts rest → Follows signs.Semicolon rest
    → IsOfKind kinds.Wire b × named_wire_form l ts rest
f_later_wire l a b ts rest known (alike, is) follows =
    (alike.0 ∙ known, f_named_wire l b ts rest (alike.0 ∙ known) is follows)

f_wires : (l : Limits) (d : DeclarationTree) (ds : List DeclarationTree)
    (ts m m1 m2 rest : List Placed) → d.kind ≡ kinds.Wire → a_word words.Wire ts m
    → IsTyped l d m m1 → IsNamedSignal l d m1 m2
    → (later (LaterSignal l) d ds ⨾ a_sign signs.Semicolon) m2 rest → wires_form l ts rest
f_wires l d ds ts m m1 m2 rest kind is type named others =
    let (m3, name, value) =
    f_named_wire l d m1 m2 kind named (λ Q first second.
    next_later Q (LaterSignal l) d ds signs.Semicolon m2 rest first second others) in (
      m,
      is,
      f_typed l d (perhaps_value_form l ⨾ more_wires_form l) m m1 rest type (
        m3,
        name,
        (
          m2,
          value,
          f_later (LaterSignal l) (named_wire_form l) (IsOfKind kinds.Wire) signs.Semicolon
              (f_later_wire l) d ds m2 rest kind others,
        ),
      ),
    )

abbrev Value : Limits → List Placed → List Placed → Type 0
Value l ts rest = (v : Option ExpressionTree) × perhaps (equals l) v ts rest

b_value : (l : Limits) (ts rest : List Placed) → perhaps_value_form l ts rest → Value l ts rest
b_value l ts rest (inl (next, same)) = (None, same)
b_value l ts rest (inr (m, sets, (m1, value, same))) =
    let tree = expression_tree l 0 m m1 value in
    subst (Value l ts) same (Some tree.0, (m, sets, tree.1))

abbrev NextSignal : Limits → DeclKind → DeclarationTree → List Placed → List Placed → Type 0
NextSignal l k a ts rest = (b : DeclarationTree) × IsOfKind k b × LaterSignal l a b ts rest

b_later_wire : (l : Limits) (a : DeclarationTree) (ts rest : List Placed) → IsOfKind kinds.Wire a →
    named_wire_form l ts rest → NextSignal l kinds.Wire a ts rest
b_later_wire l a ts rest known (m, (x, (p, name)), value) =
    let value = b_value l m rest value in (
      record a {
        kind = kinds.Wire;
        name = x;
        place = p;
        value = value.0;
      },
      refl,
      ((sym known, refl, refl, refl), (m, name, value.1)),
    )

abbrev pub Signals : Limits → List Placed → List Placed → Type 0
Signals l ts rest = (ds : List DeclarationTree) × (AreSignals l ds ⨾ a_sign signs.Semicolon) ts rest

pub b_wires : (l : Limits) (ts rest : List Placed) → wires_form l ts rest → Signals l ts rest
b_wires l ts rest (
  m,
  is,
  (
    m1,
    signed,
    (
      m2,
      range,
      (m3, label, (m4, (x, (p, name)), (m5, value, (k, (m6, others, final))))),
    ),
  ),
) =
    let signed = b_signed l m m1 signed in
    let range = b_range l m1 m2 range in
    let label = b_label l m2 m3 label in
    let value = b_value l m4 m5 value in
    let d : DeclarationTree =
    declared_tree kinds.Wire signed.0 range.0 label.0 x p value.0 in
    let further = b_later (LaterSignal l) (named_wire_form l) (IsOfKind kinds.Wire) signs.Semicolon
    (b_later_wire l) d k m5 m6 rest refl others final in (
      d ∷ further.0,
      (
        further.1.0,
        (
          m5,
          (m, is, (m3, (m1, signed.1, (m2, range.1, label.1)), (m4, name, value.1))),
          further.1.1,
        ),
        further.1.2,
      ),
    )

-- ---- behind signedness and range of a `reg`

-- names, or one name and the range of a memory
abbrev names_form : Limits → Form
names_form l = some_name ⨾ more_names_form l signs.Semicolon

abbrev number_range_form : Form
number_range_form =
    a_sign signs.OpenBracket ⨾ some_number ⨾ a_sign signs.Colon ⨾ some_number
    ⨾ a_sign signs.CloseBracket

abbrev memory_form : Form
memory_form = some_name ⨾ number_range_form ⨾ a_sign signs.Semicolon

abbrev registers_behind : Limits → Form
registers_behind l ts rest = (b : Option LabelTree) × (perhaps IsLabel b ⨾ names_form l) ts rest

abbrev memory_behind : Form
memory_behind ts rest =
    (b : Option MemoryLabelTree) × (perhaps IsMemoryLabel b ⨾ memory_form) ts rest

f_names : (l : Limits) (ts rest : List Placed) → more_names_form l signs.Semicolon ts rest →
    behind_reg_name_form l ts rest
f_names l ts rest (zero, (m, none, final)) =
    inr (inr (rest, subst (λ us. a_sign signs.Semicolon us rest) (sym none) final, refl))
f_names l ts rest (suc k, (m, (m1, (c, comma, name), further), final)) =
    inr (inl (c, comma, (m1, name, (rest, (k, (m, further, final)), refl))))

f_numbers : (l : Limits) (ts m rest : List Placed) → number_range_form ts m →
    a_sign signs.Semicolon m rest → behind_reg_name_form l ts rest
f_numbers l ts m rest (m1, opens, (m2, first, (m3, colon, (m4, last, close)))) final =
    inl (m1, opens, (m2, first, (m3, colon, (m4, last, (m, close, (rest, final, refl))))))

f_registers_behind : (l : Limits) (b : Option LabelTree) (ts mid m rest : List Placed)
    → perhaps IsLabel b ts mid → some_name mid m
    → more_names_form l signs.Semicolon m rest → reg_label_form l ts rest
f_registers_behind l None ts mid m rest same name others =
    inr (m, subst (λ us. some_name us m) (sym same) name, (rest, f_names l m rest others, refl))
f_registers_behind l (Some (point_label x p)) ts mid m rest (m1, opens, (m2, point, close)) name
    others =
    inl (
      m1,
      opens,
      (
        m2,
        (x, (p, point)),
        (
          rest,
          inl (mid, close, (rest, (m, name, (rest, f_names l m rest others, refl)), refl)),
          refl,
        ),
      ),
    )
f_registers_behind l (Some (table_label x s t p)) ts mid m rest
    (m1, opens, (m2, (m3, table, (m4, first, (m5, (m6, one, other), last))), close)) name others =
    inl (
      m1,
      opens,
      (
        m3,
        (x, (p, table)),
        (
          rest,
          inr (
            m4,
            first,
            (
              rest,
              inr (
                m6,
                (s, one),
                (
                  m5,
                  f_second_name l t m6 m5 other
                      (next_sign (λ x. IsOver (perhaps_second_name_on x)) signs.CloseParenthesis m5
                      m2 tt last),
                  (m2, last, (mid, close, (m, name, (rest, others, refl)))),
                ),
              ),
              refl,
            ),
          ),
          refl,
        ),
      ),
    )

f_memory_behind : (l : Limits) (b : Option MemoryLabelTree) (ts mid m m1 rest : List Placed)
    → perhaps IsMemoryLabel b ts mid → some_name mid m
    → number_range_form m m1 → a_sign signs.Semicolon m1 rest → reg_label_form l ts rest
f_memory_behind l None ts mid m m1 rest same name range final =
    inr (
      m,
      subst (λ us.
          some_name us m) (sym same) name,
      (rest, f_numbers l m m1 rest range final, refl),
    )
f_memory_behind l (Some (memory_point x p)) ts mid m m1 rest (m2, opens, (m3, point, close)) name
    range final =
    inl (
      m2,
      opens,
      (
        m3,
        (x, (p, point)),
        (
          rest,
          inl (
            mid,
            close,
            (rest, (m, name, (rest, f_numbers l m m1 rest range final, refl)), refl),
          ),
          refl,
        ),
      ),
    )
f_memory_behind l (Some (by_index x p)) ts mid m m1 rest
    (m2, opens, (m3, (m4, table, (m5, first, (m6, hash, last))), close)) name
    (m7, bracket, (m8, low, (m9, colon, (m10, high, end)))) final =
    inl (
      m2,
      opens,
      (
        m4,
        (x, (p, table)),
        (
          rest,
          inr (
            m5,
            first,
            (
              rest,
              inl (
                m6,
                hash,
                (
                  m3,
                  last,
                  (
                    mid,
                    close,
                    (
                      m1,
                      (
                        m,
                        name,
                        (
                          m7,
                          bracket,
                          (m8, low, (m9, colon, (m10, high, (m1, end, refl)))),
                        ),
                      ),
                      (rest, final, refl),
                    ),
                  ),
                ),
              ),
              refl,
            ),
          ),
          refl,
        ),
      ),
    )

-- back: what stands behind signedness and range
abbrev RegBehind : Limits → List Placed → List Placed → Type 0
RegBehind l ts rest = registers_behind l ts rest ⊎ memory_behind ts rest

-- with a label that may be that of registers or that of a memory
b_behind_name : (l : Limits) (b : Option LabelTree) (c : Option MemoryLabelTree)
    (ts mid m rest : List Placed) → perhaps IsLabel b ts mid
    → perhaps IsMemoryLabel c ts mid → some_name mid m → behind_reg_name_form l m rest
    → RegBehind l ts rest
b_behind_name l b c ts mid m rest register memory name
    (inl (m1, opens, (m2, first, (m3, colon, (m4, last, (m5, close, (m6, final, same))))))) =
    inr (subst (memory_behind ts) same (
      c,
      (
        mid,
        memory,
        (
          m,
          name,
          (m5, (m1, opens, (m2, first, (m3, colon, (m4, last, close)))), final),
        ),
      ),
    ))
b_behind_name l b c ts mid m rest register memory name
    (inr (inl (m1, comma, (m2, next, (m3, (k, (m4, others, final)), same))))) =
    inl (subst (registers_behind l ts) same
    (b, (mid, register, (m, name, (suc k, (m4, (m2, (m1, comma, next), others), final))))))
b_behind_name l b c ts mid m rest register memory name (inr (inr (m1, final, same))) =
    inl (subst (registers_behind l ts) same
    (b, (mid, register, (m, name, (zero, (m, refl, final))))))

b_selector : (l : Limits) (x : List ℕ) (p : Place) (ts m m1 m2 rest : List Placed)
    → a_sign signs.OpenBrace ts m → name_at x p m m1
    → a_sign signs.OpenParenthesis m1 m2 → label_selector_form l m2 rest → RegBehind l ts rest
b_selector l x p ts m m1 m2 rest opens table first
    (inl (
      m3,
      hash,
      (
        m4,
        last,
        (
          m5,
          close,
          (
            m6,
            (
              m7,
              name,
              (m8, bracket, (m9, low, (m10, colon, (m11, high, (m12, end, whole))))),
            ),
            (m13, final, same),
          ),
        ),
      ),
    )) =
    let range = subst (number_range_form m7) whole
    (m8, bracket, (m9, low, (m10, colon, (m11, high, end)))) in
    inr (subst (memory_behind ts) same (
      Some (by_index x p),
      (
        m5,
        (m, opens, (m4, (m1, table, (m2, first, (m3, hash, last))), close)),
        (m7, name, (m6, range, final)),
      ),
    ))
b_selector l x p ts m m1 m2 rest opens table first
    (inr (m3, (s, one), (m4, other, (m5, last, (m6, close, (m7, name, (m8, others, same))))))) =
    let second = b_second_name l m3 m4 other in
    inl (subst (registers_behind l ts) same (
      Some (table_label x s second.0 p),
      (
        m6,
        (m, opens, (m5, (m1, table, (m2, first, (m4, (m3, one, second.1), last))), close)),
        (m7, name, others),
      ),
    ))

b_label_end : (l : Limits) (x : List ℕ) (p : Place) (ts m m1 rest : List Placed)
    → a_sign signs.OpenBrace ts m → name_at x p m m1
    → reg_label_end_form l m1 rest → RegBehind l ts rest
b_label_end l x p ts m m1 rest opens name
    (inl (m2, close, (m3, (m4, register, (m5, behind, inner)), same))) =
    subst (RegBehind l ts) (inner ∙ same)
    (b_behind_name l (Some (point_label x p)) (Some (memory_point x p)) ts m2 m4 m5
    (m, opens, (m1, name, close)) (m, opens, (m1, name, close)) register behind)
b_label_end l x p ts m m1 rest opens name (inr (m2, first, (m3, selector, same))) =
    subst (RegBehind l ts) same (b_selector l x p ts m m1 m2 m3 opens name first selector)

b_reg_label : (l : Limits) (ts rest : List Placed) → reg_label_form l ts rest → RegBehind l ts rest
b_reg_label l ts rest (inl (m, opens, (m1, (x, (p, name)), (m2, behind, same)))) =
    subst (RegBehind l ts) same (b_label_end l x p ts m m1 m2 opens name behind)
b_reg_label l ts rest (inr (m, name, (m1, behind, same))) =
    subst (RegBehind l ts) same (b_behind_name l None None ts ts m m1 refl refl name behind)

-- ---- registers and memories

abbrev pub regs_form : Limits → Form
regs_form l = a_word words.Reg ⨾ perhaps_signed_form l ⨾ perhaps_range_form l ⨾ reg_label_form l

f_named_register : (l : Limits) (d : DeclarationTree) (ts rest : List Placed) → d.kind ≡ kinds.Reg →
    IsNamedSignal l d ts rest → some_name ts rest
f_named_register l d ts rest kind (m, name, value) =
    let (none, same) = subst (λ k. IsSignalValue l k d.value m rest) kind value in
    (d.name, (d.place, subst (name_at d.name d.place ts) same name))

f_later_register : (l : Limits) (a b : DeclarationTree) (ts rest : List Placed)
    → IsOfKind kinds.Reg a → LaterSignal l a b ts rest → Follows signs.Semicolon rest
    → IsOfKind kinds.Reg b × some_name ts rest
f_later_register l a b ts rest known (alike, is) follows =
    (alike.0 ∙ known, f_named_register l b ts rest (alike.0 ∙ known) is)

f_registers : (l : Limits) (d : DeclarationTree) (ds : List DeclarationTree)
    (ts m m1 m2 rest : List Placed) → d.kind ≡ kinds.Reg → a_word words.Reg ts m
    → IsTyped l d m m1 → IsNamedSignal l d m1 m2
    → (later (LaterSignal l) d ds ⨾ a_sign signs.Semicolon) m2 rest → regs_form l ts rest
f_registers l d ds ts m m1 m2 rest kind is (m3, signed, (m4, range, label)) named others =
    let name = f_named_register l d m1 m2 kind named in (
      m,
      is,
      f_signed_range l d.signed d.span (reg_label_form l) m m3 m4 rest signed range
          (λ P opens names. next_label P d.label m4 m1 opens (next_name P m1 m2 names name) label)
          (f_registers_behind l d.label m4 m1 m2 rest label name
          (f_later (LaterSignal l) some_name (IsOfKind kinds.Reg) signs.Semicolon
          (f_later_register l) d ds m2 rest kind others)),
    )

f_signals_of : (l : Limits) (k : DeclKind) (d : DeclarationTree) (ds : List DeclarationTree)
    (ts m m1 m2 rest : List Placed) → d.kind ≡ k
    → IsSignalKind k ts m → IsTyped l d m m1 → IsNamedSignal l d m1 m2
    → (later (LaterSignal l) d ds ⨾ a_sign signs.Semicolon) m2 rest
    → (wires_form l or regs_form l) ts rest
f_signals_of l kinds.Wire d ds ts m m1 m2 rest kind is type named others =
    inl (f_wires l d ds ts m m1 m2 rest kind is type named others)
f_signals_of l kinds.Reg d ds ts m m1 m2 rest kind is type named others =
    inr (f_registers l d ds ts m m1 m2 rest kind is type named others)
f_signals_of l _ d ds ts m m1 m2 rest kind never type named others = absurd never

pub f_signals : (l : Limits) (ds : List DeclarationTree) (ts rest : List Placed)
    → (AreSignals l ds ⨾ a_sign signs.Semicolon) ts rest
    → (wires_form l or regs_form l) ts rest
f_signals l [] ts rest (m, never, final) = absurd never
f_signals l (d ∷ ds) ts rest (m, (m1, (m2, is, (m3, type, named)), others), final) =
    f_signals_of l d.kind d ds ts m2 m3 m1 rest refl is type named (m, others, final)

next_memory_label : (P : Lexeme → Type 0) (b : Option MemoryLabelTree) (ts mid : List Placed)
    → P (sign signs.OpenBrace) → Next P mid
    → perhaps IsMemoryLabel b ts mid → Next P ts
next_memory_label P None ts mid passes behind same = subst (Next P) (sym same) behind
next_memory_label P (Some (memory_point x p)) ts mid passes behind (m, opens, inside) =
    next_sign P signs.OpenBrace ts m passes opens
next_memory_label P (Some (by_index x p)) ts mid passes behind (m, opens, inside) =
    next_sign P signs.OpenBrace ts m passes opens

f_memory : (l : Limits) (d : MemoryTree) (ts mid rest : List Placed) → IsMemory l d ts mid →
    a_sign signs.Semicolon mid rest → regs_form l ts rest
f_memory l d ts mid rest (
  m,
  is,
  (
    m1,
    signed,
    (
      m2,
      range,
      (
        m3,
        label,
        (m4, named, (m5, opens, (m6, (m7, first, (m8, colon, last)), close))),
      ),
    ),
  ),
) final =
    let name : some_name m3 m4 = (d.name, (d.place, named)) in (
      m,
      is,
      f_signed_range l d.signed d.span (reg_label_form l) m m1 m2 rest signed range
          (λ P opens names.
          next_memory_label P d.label m2 m3 opens (next_name P m3 m4 names name) label)
          (f_memory_behind l d.label m2 m3 m4 mid rest label name
          (m5, opens, (m7, (d.first, first), (m8, colon, (m6, (d.last, last), close)))) final),
    )

pub f_memories : (l : Limits) (ms : List MemoryTree) (ts rest : List Placed) →
    (only (IsMemory l) ms ⨾ a_sign signs.Semicolon) ts rest → regs_form l ts rest
f_memories l [] ts rest (m, never, final) = absurd never
f_memories l (d ∷ []) ts rest (m, is, final) = f_memory l d ts m rest is final
f_memories l (d ∷ e ∷ ds) ts rest (m, never, final) = absurd never

b_later_register : (l : Limits) (a : DeclarationTree) (ts rest : List Placed) →
    IsOfKind kinds.Reg a → some_name ts rest → NextSignal l kinds.Reg a ts rest
b_later_register l a ts rest known (x, (p, name)) = (
  record a {
    kind = kinds.Reg;
    name = x;
    place = p;
    value = None;
  },
  refl,
  ((sym known, refl, refl, refl), (rest, name, (refl, refl))),
)

abbrev pub Memories : Limits → List Placed → List Placed → Type 0
Memories l ts rest =
    (ms : List MemoryTree) × (only (IsMemory l) ms ⨾ a_sign signs.Semicolon) ts rest

b_regs_behind : (l : Limits) (ts m m1 m2 rest : List Placed) → a_word words.Reg ts m
    → perhaps_signed_form l m m1 → perhaps_range_form l m1 m2
    → RegBehind l m2 rest → Signals l ts rest ⊎ Memories l ts rest
b_regs_behind l ts m m1 m2 rest is signed range
    (inl (b, (m3, label, (m4, (x, (p, name)), (k, (m5, others, final)))))) =
    let signed = b_signed l m m1 signed in
    let range = b_range l m1 m2 range in
    let d : DeclarationTree =
    declared_tree kinds.Reg signed.0 range.0 b x p None in
    let further = b_later (LaterSignal l) some_name (IsOfKind kinds.Reg) signs.Semicolon
    (b_later_register l) d k m4 m5 rest refl others final in
    inl (
      d ∷ further.0,
      (
        further.1.0,
        (
          m4,
          (m, is, (m3, (m1, signed.1, (m2, range.1, label)), (m4, name, (refl, refl)))),
          further.1.1,
        ),
        further.1.2,
      ),
    )
b_regs_behind l ts m m1 m2 rest is signed range
    (inr (
      b,
      (
        m3,
        label,
        (
          m4,
          (x, (p, name)),
          (m5, (m6, opens, (m7, (v, first), (m8, colon, (m9, (w, last), close)))), final),
        ),
      ),
    )) =
    let signed = b_signed l m m1 signed in
    let range = b_range l m1 m2 range in
    let d : MemoryTree =
    record {
      signed = signed.0;
      span = range.0;
      label = b;
      name = x;
      place = p;
      first = v;
      last = w;
    } in
    inr (
      d ∷ [],
      (
        m5,
        (
          m,
          is,
          (
            m1,
            signed.1,
            (
              m2,
              range.1,
              (m3, label, (m4, name, (m6, opens, (m9, (m7, first, (m8, colon, last)), close)))),
            ),
          ),
        ),
        final,
      ),
    )

pub b_regs : (l : Limits) (ts rest : List Placed) → regs_form l ts rest →
    Signals l ts rest ⊎ Memories l ts rest
b_regs l ts rest (m, is, (m1, signed, (m2, range, behind))) =
    b_regs_behind l ts m m1 m2 rest is signed range (b_reg_label l m2 rest behind)
