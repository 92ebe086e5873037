-- Label maps are what their symbols stand for.
use Rattle.std.proofs.Common.{ℕ, zero, suc, List, [], ◌∷◌, Option, Some, None, inl, inr, refl, sym}
use Rattle.std.proofs.Common.{subst}
use Rattle.sv_token.specs.declared.keywords.WordKind.TheVariants as words
use Rattle.sv_token.specs.declared.signs.SignKind.TheVariants as signs
use Rattle.sv_token.specs.Lexemes.{Lexeme, word, numeral, Literal, Placed}
use Rattle.sv_ast.specs.Tree.{ExpressionTree, literal, SpanTree, RowTree, KeyTree, MapTree}
use Rattle.sv_ast.specs.GrammarForms.{Form, ◌⨾◌, nothing, each, perhaps, a_word, a_sign, a_name}
use Rattle.sv_ast.specs.GrammarExpressions.{Limits}
use Rattle.sv_ast.specs.GrammarModules.{IsNumber, IsKeyRange, IsKey, IsRow, IsMap}
use Rattle.sv_parse_machine.specs.ModuleTable.{perhaps_key_range_on, perhaps_second_key_on}
use Rattle.sv_parse_machine.specs.ModuleTable.{perhaps_maps_on}
use Rattle.sv_parse_machine.proofs.ExpressionForms.{Next}
use Rattle.sv_parse_machine.proofs.ExpressionParts.{next_at}
use Rattle.sv_parse_machine.proofs.OuterForms.{IsOver, times, some_number, perhaps_key_range_form}
use Rattle.sv_parse_machine.proofs.OuterForms.{perhaps_second_key_form, rows_row, rows_end, rows_form}
use Rattle.sv_parse_machine.proofs.OuterForms.{perhaps_maps_row, perhaps_maps_form}
use Rattle.sv_parse_machine.proofs.ListTrees.{next_sign, next_word, b_each}

-- ---- ranges of numbers

f_number : (e : ExpressionTree) (ts rest : List Placed) → IsNumber e ts rest → some_number ts rest
f_number (literal v p) ts rest is = (v, (p, is))
f_number _ ts rest never = absurd never

abbrev key_range_form : Form
key_range_form =
    a_sign signs.OpenBracket ⨾ some_number ⨾ a_sign signs.Colon ⨾ some_number
    ⨾ a_sign signs.CloseBracket ⨾ nothing

f_key_range : (s : SpanTree) (ts rest : List Placed) → IsKeyRange s ts rest → key_range_form ts rest
f_key_range s ts rest (m, opens, (m1, (m2, high, (m3, colon, low)), close)) = (
  m,
  opens,
  (
    m2,
    f_number s.high m m2
        high,
    (m3, colon, (m1, f_number s.low m3 m1 low, (rest, close, refl))),
  ),
)

abbrev KeyRange : List Placed → List Placed → Type 0
KeyRange ts rest = (s : SpanTree) × IsKeyRange s ts rest

b_key_range : (ts rest : List Placed) → key_range_form ts rest → KeyRange ts rest
b_key_range ts rest (
  m,
  opens,
  (m2, (v, (p, high)), (m3, colon, (m1, (w, (q, low)), (m4, close, same)))),
) =
    subst (KeyRange ts) same (
      record {
        high = literal v p;
        low = literal w q;
      },
      (m, opens, (m1, (m2, high, (m3, colon, low)), close)),
    )

f_perhaps_key_range : (l : Limits) (s : Option SpanTree) (ts rest : List Placed)
    → perhaps IsKeyRange s ts rest
    → Next (λ x. IsOver (perhaps_key_range_on x)) rest → perhaps_key_range_form l ts rest
f_perhaps_key_range l None ts rest same next =
    inl (subst (Next (λ x. IsOver (perhaps_key_range_on x))) (sym same) next, same)
f_perhaps_key_range l (Some s) ts rest is next = inr (f_key_range s ts rest is)

abbrev SomeKeyRange : List Placed → List Placed → Type 0
SomeKeyRange ts rest = (s : Option SpanTree) × perhaps IsKeyRange s ts rest

b_perhaps_key_range : (l : Limits) (ts rest : List Placed) → perhaps_key_range_form l ts rest →
    SomeKeyRange ts rest
b_perhaps_key_range l ts rest (inl (next, same)) = (None, same)
b_perhaps_key_range l ts rest (inr is) =
    let range = b_key_range ts rest is in (Some range.0, range.1)

-- ---- rows

abbrev SecondKey : KeyTree → Form
SecondKey k = a_sign signs.Comma ⨾ IsKey k

f_second_key : (l : Limits) (k : Option KeyTree) (ts mid rest : List Placed)
    → perhaps SecondKey k ts mid → a_sign signs.Colon mid rest
    → perhaps_second_key_form l ts mid
f_second_key l None ts mid rest same colon =
    inl (
      subst (Next (λ x. IsOver (perhaps_second_key_on x))) (sym same)
          (next_sign (λ x. IsOver (perhaps_second_key_on x)) signs.Colon mid rest tt colon),
      same,
    )
f_second_key l (Some k) ts mid rest (m, comma, is) colon =
    inr (m, comma, (mid, (k.value, (k.place, is)), refl))

abbrev SomeKey : List Placed → List Placed → Type 0
SomeKey ts rest = (k : Option KeyTree) × perhaps SecondKey k ts rest

b_second_key : (l : Limits) (ts rest : List Placed) → perhaps_second_key_form l ts rest →
    SomeKey ts rest
b_second_key l ts rest (inl (next, same)) = (None, same)
b_second_key l ts rest (inr (m, comma, (m1, (v, (p, is)), same))) =
    subst (SomeKey ts) same (Some (record { value = v; place = p }), (m, comma, is))

f_row : (l : Limits) (r : RowTree) (ts rest : List Placed) → IsRow r ts rest → rows_row l ts rest
f_row l r ts rest (m, first, (m1, second, (m2, colon, (m3, name, close)))) = (
  m,
  (r.first.value, (r.first.place, first)),
  (m1, f_second_key l r.second m m1 m2 second colon, (m2, colon, (m3, (r.to, name), close))),
)

abbrev Row : List Placed → List Placed → Type 0
Row ts rest = (r : RowTree) × IsRow r ts rest

b_row : (l : Limits) (ts rest : List Placed) → rows_row l ts rest → Row ts rest
b_row l ts rest (m, (v, (p, first)), (m1, second, (m2, colon, (m3, (x, name), close)))) =
    let other = b_second_key l m m1 second in (
      record {
        first = record { value = v; place = p };
        second = other.0;
        to = x;
      },
      (m, first, (m1, other.1, (m2, colon, (m3, name, close)))),
    )

-- ---- the point of the other keys

abbrev DefaultRow : List ℕ → Form
DefaultRow x = a_word words.Default ⨾ a_sign signs.Colon ⨾ a_name x ⨾ a_sign signs.Semicolon

abbrev MapEnd : Option (List ℕ) → Form
MapEnd other = perhaps DefaultRow other ⨾ a_word words.Endlabelmap

f_map_end : (l : Limits) (other : Option (List ℕ)) (ts rest : List Placed) → MapEnd other ts rest →
    rows_end l ts rest
f_map_end l None ts rest (m, same, final) =
    inr (subst (λ us. a_word words.Endlabelmap us rest) (sym same) final)
f_map_end l (Some x) ts rest (m, (m1, starts, (m2, colon, (m3, name, close))), final) =
    inl (m1, starts, (m2, colon, (m3, (x, name), (m, close, (rest, final, refl)))))

abbrev SomeEnd : List Placed → List Placed → Type 0
SomeEnd ts rest = (other : Option (List ℕ)) × MapEnd other ts rest

b_map_end : (l : Limits) (ts rest : List Placed) → rows_end l ts rest → SomeEnd ts rest
b_map_end l ts rest (inr final) = (None, (ts, refl, final))
b_map_end l ts rest (inl
    (m1, starts, (m2, colon, (m3, (x, name), (m, close, (m4, final, same)))))) =
    subst (SomeEnd ts) same (Some x, (m, (m1, starts, (m2, colon, (m3, name, close))), final))

-- a key, `default` or the end comes next
next_rows : (P : Lexeme → Type 0) (rows : List RowTree) (other : Option (List ℕ))
    (ts rest : List Placed) → ((v : Literal) → P (numeral v))
    → P (word words.Default) → P (word words.Endlabelmap) → (each IsRow rows ⨾ MapEnd other) ts rest
    → Next P ts
next_rows P [] None ts rest key default final (m, none, (m1, same, is)) =
    subst (Next P) (sym none)
    (subst (Next P) (sym same) (next_word P words.Endlabelmap m1 rest final is))
next_rows P [] (Some x) ts rest key default final (m, none, (m1, (m2, is, behind), last)) =
    subst (Next P) (sym none) (next_word P words.Default m m2 default is)
next_rows P (r ∷ rows) other ts rest key default final (m, (m1, (m2, is, behind), others), last) =
    next_at P (numeral r.first.value) r.first.place ts m2 is (key r.first.value)

f_rows : (l : Limits) (rows : List RowTree) (other : Option (List ℕ)) (ts rest : List Placed) →
    (each IsRow rows ⨾ MapEnd other) ts rest → rows_form l ts rest
f_rows l [] other ts rest (m, none, final) = (zero, (m, none, f_map_end l other m rest final))
f_rows l (r ∷ rows) other ts rest (m, (m1, is, others), final) =
    let further = f_rows l rows other m1 rest (m, others, final) in
    (suc further.0, (further.1.0, (m1, f_row l r ts m1 is, further.1.1), further.1.2))

abbrev Rows : List Placed → List Placed → Type 0
Rows ts rest =
    (rows : List RowTree) × (other : Option (List ℕ)) × (each IsRow rows ⨾ MapEnd other) ts rest

b_rows : (l : Limits) (k : ℕ) (ts m rest : List Placed) → times (rows_row l) k ts m →
    rows_end l m rest → Rows ts rest
b_rows l zero ts m rest none final =
    let other = b_map_end l m rest final in ([], other.0, (m, none, other.1))
b_rows l (suc k) ts m rest (m1, is, further) final =
    let row = b_row l ts m1 is in
    let others = b_rows l k m1 m rest further final in
    (row.0 ∷ others.0, others.1, (others.2.0, (m1, row.1, others.2.1), others.2.2))

-- ---- maps

f_map : (l : Limits) (t : MapTree) (ts rest : List Placed) → IsMap t ts rest →
    perhaps_maps_row l ts rest
unfolding IsMap
f_map l t ts rest (m, starts, (m1, name, (m2, span, (m3, second, rows)))) = (
  m,
  starts,
  (
    m2,
    (m1, (t.name, (t.place, name)), f_key_range t.span m1 m2 span),
    (
      m3,
      f_perhaps_key_range l t.second m2 m3 second
          (next_rows (λ x. IsOver (perhaps_key_range_on x)) t.rows t.other m3 rest (λ v.
          tt) tt tt rows),
      f_rows l t.rows t.other m3 rest rows,
    ),
  ),
)

abbrev Map : List Placed → List Placed → Type 0
Map ts rest = (t : MapTree) × IsMap t ts rest

b_map : (l : Limits) (ts rest : List Placed) → perhaps_maps_row l ts rest → Map ts rest
unfolding IsMap
b_map l ts rest (
  m,
  starts,
  (m2, (m1, (x, (p, name)), range), (m3, second, (k, (m4, inside, final)))),
) =
    let span = b_key_range m1 m2 range in
    let other = b_perhaps_key_range l m2 m3 second in
    let rows = b_rows l k m3 m4 rest inside final in (
      record {
        name = x;
        place = p;
        span = span.0;
        second = other.0;
        rows = rows.0;
        other = rows.1;
      },
      (m, starts, (m1, name, (m2, span.1, (m3, other.1, rows.2)))),
    )

pub f_perhaps_maps : (l : Limits) (maps : List MapTree) (ts rest : List Placed)
    → each IsMap maps ts rest → Next (λ x. IsOver (perhaps_maps_on x)) rest
    → perhaps_maps_form l ts rest
f_perhaps_maps l [] ts rest same next = (zero, (rest, same, (next, refl)))
f_perhaps_maps l (t ∷ maps) ts rest (m1, is, others) next =
    let further = f_perhaps_maps l maps m1 rest others next in
    (suc further.0, (further.1.0, (m1, f_map l t ts m1 is, further.1.1), further.1.2))

-- the first token of maps, or of what stands behind
pub next_maps : (P : Lexeme → Type 0) (maps : List MapTree) (ts rest : List Placed) →
    P (word words.Labelmap) → Next P rest → each IsMap maps ts rest → Next P ts
unfolding IsMap
next_maps P [] ts rest passes behind same = subst (Next P) (sym same) behind
next_maps P (t ∷ maps) ts rest passes behind (m1, (m, is, inside), others) =
    next_word P words.Labelmap ts m passes is

abbrev pub Maps : List Placed → List Placed → Type 0
Maps ts rest = (maps : List MapTree) × each IsMap maps ts rest

pub b_perhaps_maps : (l : Limits) (ts rest : List Placed) → perhaps_maps_form l ts rest →
    Maps ts rest
b_perhaps_maps l ts rest (k, (m, are, (next, same))) = subst (Maps ts) same
    (b_each IsMap (perhaps_maps_row l) (b_map l) k ts m are)
