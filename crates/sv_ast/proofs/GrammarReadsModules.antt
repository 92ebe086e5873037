-- Readers of declarations, items, modules and whole texts.
use Rattle.std.proofs.Common.{◌≡◌, Bool, true, false, List, [], ◌∷◌, ◌++◌, length, map, Option}
use Rattle.std.proofs.Common.{Some, None, inl, inr, refl, subst}
use Rattle.std.specs.Prelude.{flat_map}
use Rattle.sv_num.specs.declared.operators.BinOp.TheVariants as binop
use Rattle.sv_token.specs.declared.keywords.WordKind.TheVariants as words
use Rattle.sv_token.specs.declared.signs.SignKind.TheVariants as signs
use Rattle.sv_token.specs.Lexemes.{Placed}
use Rattle.sv_ast.specs.declared.declarations.DeclKind.{DeclKind}
use Rattle.sv_ast.specs.declared.declarations.DeclKind.TheVariants as kinds
use Rattle.sv_ast.specs.Tree.{literal, whole, SpanTree, LabelTree, point_label, table_label}
use Rattle.sv_ast.specs.Tree.{ParameterTree, memory_point, by_index, named_overrides}
use Rattle.sv_ast.specs.Tree.{ordered_overrides, named_links, ordered_links, parameter_item}
use Rattle.sv_ast.specs.Tree.{declared, memory_item, continuous, released, always_item}
use Rattle.sv_ast.specs.Tree.{invariant_item, instance_item, TextTree}
use Rattle.sv_ast.specs.GrammarForms.{Form, ◌⨾◌, ◌or◌, given, nothing, optional, perhaps, flag}
use Rattle.sv_ast.specs.GrammarForms.{some, a_word, a_sign, a_name, in_parentheses}
use Rattle.sv_ast.specs.GrammarExpressions.{Limits}
use Rattle.sv_ast.specs.GrammarDeclarations.{IsValue, IsRange, IsLabel, equals, IsParameterType}
use Rattle.sv_ast.specs.GrammarDeclarations.{IsParameter, IsLaterParameter, AreParameters}
use Rattle.sv_ast.specs.GrammarDeclarations.{IsHeaderParameter, AreHeaderParameters, AreAlike}
use Rattle.sv_ast.specs.GrammarDeclarations.{IsPortKind, IsNamedPort, IsPort, ArePorts}
use Rattle.sv_ast.specs.GrammarDeclarations.{IsSignalKind, IsSignalValue, IsNamedSignal, IsSignal}
use Rattle.sv_ast.specs.GrammarDeclarations.{AreSignals, IsMemoryLabel, IsMemory}
use Rattle.sv_ast.specs.GrammarModules.{IsPlacedName, IsWholeTarget, IsContinuous, AreContinuous}
use Rattle.sv_ast.specs.GrammarModules.{IsReleased, IsEvent, IsAlways, place_of, IsInvariant}
use Rattle.sv_ast.specs.GrammarModules.{IsNamedOverride, hash_parentheses, AreOverrides}
use Rattle.sv_ast.specs.GrammarModules.{IsNamedLink, AreLinks, IsNamedInstance, IsInstance}
use Rattle.sv_ast.specs.GrammarModules.{AreOfOneModule, AreInstances, IsListedItem, IsItem}
use Rattle.sv_ast.specs.GrammarModules.{AreItems, IsModule, points, pair, IsLatticeLine, points_of}
use Rattle.sv_ast.specs.GrammarModules.{pairs_of, IsLattice, IsNumber, IsKeyRange, IsKey, IsRow}
use Rattle.sv_ast.specs.GrammarModules.{IsMap, IsText}
use Rattle.sv_ast.specs.GrammarRules.{BeginText}
use Rattle.sv_ast.proofs.GrammarReads.{◌>>=◌, otherwise, Reads, read_word, read_word_at, read_sign}
use Rattle.sv_ast.proofs.GrammarReads.{read_number_at, read_name, read_name_at, read_flag}
use Rattle.sv_ast.proofs.GrammarReads.{read_perhaps, read_optional, read_each, read_some}
use Rattle.sv_ast.proofs.GrammarReads.{read_later, read_listed, read_commas, read_between}
use Rattle.sv_ast.proofs.GrammarReads.{read_tree_between}
use Rattle.sv_ast.proofs.GrammarReadsExpressions.{steps_for, read_expression}
use Rattle.sv_ast.proofs.GrammarReadsStatements.{read_operator, read_targets, first_place}
use Rattle.sv_ast.proofs.GrammarReadsStatements.{read_statement}

-- ---- types

abbrev pub read_value : (l : Limits) (ts : List Placed) → Reads (IsValue l) ts
read_value l ts = read_expression l 0 ts

abbrev pub read_range : (l : Limits) (ts : List Placed) → Reads (IsRange l) ts
read_range l ts = do
  o ← read_sign signs.OpenBracket ts
  high ← read_value l o.0
  colon ← read_sign signs.Colon high.1
  low ← read_value l colon.0
  c ← read_sign signs.CloseBracket low.1
  Some (
    record {
      high = high.0;
      low = low.0;
    },
    c.0,
    (o.0, o.1, (low.1, (high.1, high.2, (colon.0, colon.1, low.2)), c.1)),
  )

abbrev pub read_comma_name : (ts : List Placed) → Reads (λ x. a_sign signs.Comma ⨾ a_name x) ts
read_comma_name ts = do
  c ← read_sign signs.Comma ts
  x ← read_name c.0
  Some (x.0, x.1, (c.0, c.1, x.2))

abbrev pub read_label : (ts : List Placed) → Reads IsLabel ts
read_label ts = do
  o ← read_sign signs.OpenBrace ts
  x ← read_name_at o.0
  otherwise (do
    c ← read_sign signs.CloseBrace x.2
    Some (point_label x.0 x.1, c.0, (o.0, o.1, (x.2, x.3, c.1)))) (λ _. (do
      p ← read_sign signs.OpenParenthesis x.2
      s ← read_name p.0
      t ← read_perhaps {P = λ y. a_sign signs.Comma ⨾ a_name y} read_comma_name s.1
      q ← read_sign signs.CloseParenthesis t.1
      c ← read_sign signs.CloseBrace q.0
      Some (
        table_label x.0 s.0 t.0 x.1,
        c.0,
        (o.0, o.1, (q.0, (x.2, x.3, (p.0, p.1, (t.1, (s.1, s.2, t.2), q.1))), c.1)),
      )))

abbrev Typed : Limits → Bool → Option SpanTree → Option LabelTree → Form
Typed l s r b = flag words.Signed s ⨾ perhaps (IsRange l) r ⨾ perhaps IsLabel b

abbrev read_typed : (l : Limits) (ts : List Placed)
    → Option ((s : Bool) × (r : Option SpanTree) × (b : Option LabelTree) × (rest : List Placed)
    × Typed l s r b ts rest)
read_typed l ts = do
  s ← read_flag words.Signed ts
  r ← read_perhaps {P = IsRange l} (read_range l) s.1
  b ← read_perhaps {P = IsLabel} read_label r.1
  Some (s.0, r.0, b.0, b.1, (s.1, s.2, (r.1, r.2, b.2)))

abbrev pub read_equals : (l : Limits) (ts : List Placed) → Reads (equals l) ts
read_equals l ts = do
  q ← read_sign signs.Equals ts
  e ← read_value l q.0
  Some (e.0, e.1, (q.0, q.1, e.2))

-- ---- parameters

abbrev read_parameter_type : (l : Limits) (ts : List Placed)
    → Option ((s : Bool) × (r : Option SpanTree) × (rest : List Placed)
    × IsParameterType l s r ts rest)
read_parameter_type l ts = do
  s ← read_flag words.Signed ts
  otherwise (do
    r ← read_range l s.1
    Some (s.0, Some r.0, r.1, (s.1, s.2, r.2))) (λ _. Some (false, None, ts, refl))

-- a parameter by this word
abbrev read_parameter_by : (local : Bool) (l : Limits) (ts : List Placed)
    → Option ((q : ParameterTree) × (rest : List Placed) × (q.local ≡ local)
    × IsParameter l q ts rest)
read_parameter_by true l ts = do
  w ← read_word words.Localparam ts
  t ← read_parameter_type l w.0
  x ← read_name_at t.2
  e ← read_equals l x.2
  Some (
    record { local = true; signed = t.0; span = t.1; name = x.0; place = x.1; value = e.0 },
    e.1,
    refl,
    (w.0, w.1, (t.2, t.3, (x.2, x.3, e.2))),
  )
read_parameter_by false l ts = do
  w ← read_word words.Parameter ts
  t ← read_parameter_type l w.0
  x ← read_name_at t.2
  e ← read_equals l x.2
  Some (
    record { local = false; signed = t.0; span = t.1; name = x.0; place = x.1; value = e.0 },
    e.1,
    refl,
    (w.0, w.1, (t.2, t.3, (x.2, x.3, e.2))),
  )

abbrev pub read_parameter : (l : Limits) (ts : List Placed) → Reads (IsParameter l) ts
read_parameter l ts = otherwise (do
  q ← read_parameter_by false l ts
  Some (q.0, q.1, q.3)) (λ _. (do
    q ← read_parameter_by true l ts
    Some (q.0, q.1, q.3)))

abbrev pub read_later_parameter : (l : Limits) (before : ParameterTree) (ts : List Placed) →
    Reads (IsLaterParameter l before) ts
read_later_parameter l before ts = do
  x ← read_name_at ts
  e ← read_equals l x.2
  Some (
    record before {
      name = x.0;
      place = x.1;
      value = e.0;
    },
    e.1,
    ((refl, refl, refl), (x.2, x.3, e.2)),
  )

abbrev pub read_parameters : (l : Limits) (ts : List Placed) → Reads (AreParameters l) ts
read_parameters l ts =
    read_listed {F = IsParameter l} {L = IsLaterParameter l} (read_parameter l)
    (read_later_parameter l) (steps_for ts) ts

abbrev pub read_header_parameter : (l : Limits) (ts : List Placed) → Reads (IsHeaderParameter l) ts
read_header_parameter l ts = do
  q ← read_parameter_by false l ts
  Some (q.0, q.1, (q.2, q.3))

abbrev pub read_header_parameters : (l : Limits) (ts : List Placed) →
    Reads (AreHeaderParameters l) ts
read_header_parameters l ts =
    read_listed {F = IsHeaderParameter l} {L = λ before q.
    IsHeaderParameter l q or IsLaterParameter l before q}
    (read_header_parameter l)
    (λ before us. otherwise (do
      q ← read_header_parameter l us
      Some (q.0, q.1, inl q.2)) (λ _. (do
        q ← read_later_parameter l before us
        Some (q.0, q.1, inr q.2))))
    (steps_for ts) ts

-- ---- ports, signals, memories

abbrev pub read_port_kind : (ts : List Placed) → Reads IsPortKind ts
read_port_kind ts =
    otherwise (do
      i ← read_word words.Input ts
      w ← read_optional (read_word words.Wire) i.0
      Some (kinds.Input, w.0, (i.0, i.1, w.1))) (λ _. (do
        o ← read_word words.Output ts
        otherwise (do
          r ← read_word words.Reg o.0
          Some (kinds.OutputReg, r.0, (o.0, o.1, r.1))) (λ _. (do
            w ← read_optional (read_word words.Wire) o.0
            Some (kinds.OutputWire, w.0, (o.0, o.1, w.1))))))

abbrev pub read_port : (l : Limits) (ts : List Placed) → Reads (IsPort l) ts
read_port l ts = do
  k ← read_port_kind ts
  t ← read_typed l k.1
  x ← read_name_at t.3
  Some (
    record {
      kind = k.0;
      signed = t.0;
      span = t.1;
      label = t.2;
      name = x.0;
      place = x.1;
      value = None;
    },
    x.2,
    (k.1, k.2, (t.3, t.4, (refl, x.3))),
  )

abbrev pub read_ports : (l : Limits) (ts : List Placed) → Reads (ArePorts l) ts
read_ports l ts =
    read_listed {F = IsPort l} {L = λ before d.
    IsPort l d or given (AreAlike before d) (IsNamedPort d)}
    (read_port l)
    (λ before us. otherwise (do
      d ← read_port l us
      Some (d.0, d.1, inl d.2)) (λ _. (do
        x ← read_name_at us
        Some (
          record before {
            name = x.0;
            place = x.1;
            value = None;
          },
          x.2,
          inr ((refl, refl, refl, refl), (refl, x.3)),
        ))))
    (steps_for ts) ts

-- a name with its value, for a signal of the kind
abbrev read_signal_value : (l : Limits) (k : DeclKind) (ts : List Placed) →
    Reads (IsSignalValue l k) ts
read_signal_value l kinds.Wire ts = read_perhaps {P = equals l} (read_equals l) ts
read_signal_value l _ ts = Some (None, ts, (refl, refl))

abbrev read_signal_kind : (ts : List Placed) → Reads IsSignalKind ts
read_signal_kind ts = otherwise (do
  w ← read_word words.Wire ts
  Some (kinds.Wire, w.0, w.1)) (λ _. (do
    r ← read_word words.Reg ts
    Some (kinds.Reg, r.0, r.1)))

abbrev pub read_signal : (l : Limits) (ts : List Placed) → Reads (IsSignal l) ts
read_signal l ts = do
  k ← read_signal_kind ts
  t ← read_typed l k.1
  x ← read_name_at t.3
  v ← read_signal_value l k.0 x.2
  Some (
    record {
      kind = k.0;
      signed = t.0;
      span = t.1;
      label = t.2;
      name = x.0;
      place = x.1;
      value = v.0;
    },
    v.1,
    (k.1, k.2, (t.3, t.4, (x.2, x.3, v.2))),
  )

abbrev pub read_signals : (l : Limits) (ts : List Placed) → Reads (AreSignals l) ts
read_signals l ts =
    read_listed {F = IsSignal l} {L = λ before d.
    given (AreAlike before d) (IsNamedSignal l d)} (read_signal l)
    (λ before us. (do
      x ← read_name_at us
      v ← read_signal_value l before.kind x.2
      Some (
        record before {
          name = x.0;
          place = x.1;
          value = v.0;
        },
        v.1,
        ((refl, refl, refl, refl), (x.2, x.3, v.2)),
      )))
    (steps_for ts) ts

abbrev read_memory_label : (ts : List Placed) → Reads IsMemoryLabel ts
read_memory_label ts = do
  o ← read_sign signs.OpenBrace ts
  x ← read_name_at o.0
  otherwise (do
    c ← read_sign signs.CloseBrace x.2
    Some (memory_point x.0 x.1, c.0, (o.0, o.1, (x.2, x.3, c.1)))) (λ _. (do
      h ← read_between signs.OpenParenthesis signs.CloseParenthesis (read_sign signs.Hash) x.2
      c ← read_sign signs.CloseBrace h.0
      Some (by_index x.0 x.1, c.0, (o.0, o.1, (h.0, (x.2, x.3, h.1), c.1)))))

abbrev pub read_memory : (l : Limits) (ts : List Placed) → Reads (IsMemory l) ts
read_memory l ts = do
  w ← read_word words.Reg ts
  s ← read_flag words.Signed w.0
  r ← read_perhaps {P = IsRange l} (read_range l) s.1
  b ← read_perhaps {P = IsMemoryLabel} read_memory_label r.1
  x ← read_name_at b.1
  o ← read_sign signs.OpenBracket x.2
  first ← read_number_at o.0
  colon ← read_sign signs.Colon first.2
  last ← read_number_at colon.0
  c ← read_sign signs.CloseBracket last.2
  Some (
    record {
      signed = s.0;
      span = r.0;
      label = b.0;
      name = x.0;
      place = x.1;
      first = first.0;
      last = last.0;
    },
    c.0,
    (
      w.0,
      w.1,
      (
        s.1,
        s.2,
        (
          r.1,
          r.2,
          (
            b.1,
            b.2,
            (
              x.2,
              x.3,
              (
                o.0,
                o.1,
                (last.2, (first.2, (first.1, first.3), (colon.0, colon.1, (last.1, last.3))), c.1),
              ),
            ),
          ),
        ),
      ),
    ),
  )

-- ---- items

abbrev pub read_placed_name : (ts : List Placed) → Reads IsPlacedName ts
read_placed_name ts = do
  x ← read_name_at ts
  Some (record { name = x.0; place = x.1 }, x.2, x.3)

abbrev read_whole_target : (ts : List Placed) → Reads IsWholeTarget ts
read_whole_target ts = do
  x ← read_name_at ts
  Some (record { name = x.0; place = x.1; selection = whole }, x.2, (refl, x.3))

abbrev read_continuous : (l : Limits) (ts : List Placed) → Reads (IsContinuous l) ts
read_continuous l ts = do
  targets ← read_targets {P = IsWholeTarget} read_whole_target (steps_for ts) ts
  p ← first_place targets.0
  e ← read_equals l targets.1
  Some (continuous targets.0 p.0 e.0, e.1, (p.1, (targets.1, targets.2, e.2)))

abbrev pub read_assigns : (l : Limits) (ts : List Placed) → Reads (AreContinuous l) ts
read_assigns l ts = do
  w ← read_word words.Assign ts
  cs ← read_commas {P = IsContinuous l} (read_continuous l) (steps_for ts) w.0
  Some (cs.0, cs.1, (w.0, w.1, cs.2))

abbrev pub read_released : (l : Limits) (ts : List Placed) → Reads (IsReleased l) ts
read_released l ts = do
  w ← read_word words.Assign ts
  t ← read_placed_name w.0
  q ← read_sign signs.Equals t.1
  r ← read_word words.Release q.0
  o ← read_sign signs.OpenParenthesis r.0
  e ← read_value l o.0
  comma ← read_sign signs.Comma e.1
  x ← read_placed_name comma.0
  c ← read_sign signs.CloseParenthesis x.1
  Some (
    released t.0 e.0 x.0,
    c.0,
    (
      w.0,
      w.1,
      (
        t.1,
        t.2,
        (q.0, q.1, (r.0, r.1, (o.0, o.1, (x.1, (e.1, e.2, (comma.0, comma.1, x.2)), c.1)))),
      ),
    ),
  )

abbrev read_clock : (ts : List Placed) → Reads (λ c. a_word words.Posedge ⨾ IsPlacedName c) ts
read_clock ts = do
  w ← read_word words.Posedge ts
  x ← read_placed_name w.0
  Some (x.0, x.1, (w.0, w.1, x.2))

abbrev read_event : (ts : List Placed) → Reads IsEvent ts
read_event ts =
    otherwise (do
      s ← read_operator binop.Mul ts
      Some (None, s.0, inl s.1)) (λ _.
    otherwise (do
      s ← read_between signs.OpenParenthesis signs.CloseParenthesis (read_operator binop.Mul) ts
      Some (None, s.0, inr s.1)) (λ _. (do
        c ← read_tree_between signs.OpenParenthesis signs.CloseParenthesis read_clock ts
        Some (Some c.0, c.1, c.2))))

abbrev pub read_always : (l : Limits) (ts : List Placed) → Reads (IsAlways l) ts
read_always l ts = do
  w ← read_word_at words.Always ts
  a ← read_sign signs.At w.1
  v ← read_event a.0
  s ← read_statement (steps_for ts) l 0 v.1
  Some (always_item w.0 v.0 s.0, s.1, (w.1, w.2, (a.0, a.1, (v.1, v.2, s.2))))

abbrev pub read_invariant : (l : Limits) (ts : List Placed) → Reads (IsInvariant l) ts
read_invariant l ts = do
  w ← read_word words.Invariant ts
  e ← read_value l w.0
  Some (invariant_item (place_of e.0) e.0, e.1, (refl, (w.0, w.1, e.2)))

-- ---- instances

abbrev read_named_override : (l : Limits) (ts : List Placed) → Reads (IsNamedOverride l) ts
read_named_override l ts = do
  d ← read_sign signs.Dot ts
  x ← read_name_at d.0
  e ← read_tree_between signs.OpenParenthesis signs.CloseParenthesis (read_value l) x.2
  Some (record { name = x.0; place = x.1; value = e.0 }, e.1, (d.0, d.1, (x.2, x.3, e.2)))

abbrev pub read_overrides : (l : Limits) (ts : List Placed) → Reads (AreOverrides l) ts
read_overrides l ts = otherwise (do
  h ← read_sign signs.Hash ts
  o ← read_sign signs.OpenParenthesis h.0
  otherwise (do
    os ← read_commas {P = IsNamedOverride l} (read_named_override l) (steps_for ts) o.0
    c ← read_sign signs.CloseParenthesis os.1
    Some (named_overrides os.0, c.0, (h.0, h.1, (o.0, o.1, (os.1, os.2, c.1))))) (λ _. (do
      e ← read_value l o.0
      es ← read_later {L = λ a. IsValue l} (λ _. read_value l) (steps_for ts) e.0 e.1
      c ← read_sign signs.CloseParenthesis es.1
      Some (
        ordered_overrides (e.0 ∷ es.0),
        c.0,
        (h.0, h.1, (o.0, o.1, (es.1, (e.1, e.2, es.2), c.1))),
      )))) (λ _.
    Some (ordered_overrides [], ts, refl))

abbrev read_named_link : (l : Limits) (ts : List Placed) → Reads (IsNamedLink l) ts
read_named_link l ts = do
  d ← read_sign signs.Dot ts
  x ← read_name_at d.0
  e ← read_tree_between signs.OpenParenthesis signs.CloseParenthesis
      (read_perhaps {P = IsValue l} (read_value l)) x.2
  Some (record { name = x.0; place = x.1; value = e.0 }, e.1, (d.0, d.1, (x.2, x.3, e.2)))

abbrev read_links : (l : Limits) (ts : List Placed) → Reads (AreLinks l) ts
read_links l ts =
    otherwise (do
      ks ← read_commas {P = IsNamedLink l} (read_named_link l) (steps_for ts) ts
      Some (named_links ks.0, ks.1, ks.2)) (λ _.
    otherwise (do
      e ← read_value l ts
      es ← read_later {L = λ a. IsValue l} (λ _. read_value l) (steps_for ts) e.0 e.1
      Some (ordered_links (e.0 ∷ es.0), es.1, (e.1, e.2, es.2))) (λ _.
    Some (ordered_links [], ts, refl)))

abbrev read_instance : (l : Limits) (ts : List Placed) → Reads (IsInstance l) ts
read_instance l ts = do
  m ← read_name_at ts
  o ← read_overrides l m.2
  x ← read_name_at o.1
  k ← read_tree_between signs.OpenParenthesis signs.CloseParenthesis (read_links l) x.2
  Some (
    record {
      master = m.0;
      place = m.1;
      overrides = o.0;
      name = x.0;
      name_place = x.1;
      links = k.0;
    },
    k.1,
    (m.2, m.3, (o.1, o.2, (x.2, x.3, k.2))),
  )

abbrev pub read_instances : (l : Limits) (ts : List Placed) → Reads (AreInstances l) ts
read_instances l ts =
    read_listed {F = IsInstance l} {L = λ before i.
    given (AreOfOneModule before i) (IsNamedInstance l i)} (read_instance l)
    (λ before us. (do
      x ← read_name_at us
      k ← read_tree_between signs.OpenParenthesis signs.CloseParenthesis (read_links l) x.2
      Some (
        record before {
          name = x.0;
          name_place = x.1;
          links = k.0;
        },
        k.1,
        ((refl, refl, refl), (x.2, x.3, k.2)),
      )))
    (steps_for ts) ts

-- ---- items and modules

abbrev pub read_listed_item : (l : Limits) (ts : List Placed) → Reads (IsListedItem l) ts
read_listed_item l ts =
    otherwise (do
      r ← read_parameters l ts
      Some (map parameter_item r.0, r.1, inl (r.0, refl, r.2))) (λ _.
    otherwise (do
      r ← read_memory l ts
      Some (memory_item r.0 ∷ [], r.1, inr (inr (inl (r.0 ∷ [], refl, r.2))))) (λ _.
    otherwise (do
      r ← read_signals l ts
      Some (map declared r.0, r.1, inr (inl (r.0, refl, r.2)))) (λ _.
    otherwise (do
      r ← read_released l ts
      Some (r.0 ∷ [], r.1, inr (inr (inr (inr (inl r.2)))))) (λ _.
    otherwise (do
      r ← read_assigns l ts
      Some (r.0, r.1, inr (inr (inr (inl r.2))))) (λ _.
    otherwise (do
      r ← read_invariant l ts
      Some (r.0 ∷ [], r.1, inr (inr (inr (inr (inr (inl r.2))))))) (λ _. (do
        r ← read_instances l ts
        Some (map instance_item r.0, r.1, inr (inr (inr (inr (inr (inr (r.0, refl, r.2))))))))))))))

abbrev pub read_item : (l : Limits) (ts : List Placed) → Reads (IsItem l) ts
unfolding IsItem
read_item l ts = otherwise (do
  r ← read_always l ts
  Some (r.0 ∷ [], r.1, inl r.2)) (λ _. (do
    r ← read_listed_item l ts
    s ← read_sign signs.Semicolon r.1
    Some (r.0, s.0, inr (r.1, r.2, s.1))))

abbrev pub read_items : (l : Limits) (ts : List Placed) → Reads (AreItems l) ts
read_items l ts = do
  r ← read_each {P = IsItem l} (read_item l) (length ts) ts
  Some (flat_map (λ group. group) r.0, r.1, (r.0, refl, r.2))

-- what stands in the parentheses of a header, if they are there
abbrev read_parameter_list : (l : Limits) (ts : List Placed)
    → Reads (λ qs. given (qs ≡ []) nothing or hash_parentheses (AreHeaderParameters l qs)) ts
read_parameter_list l ts = otherwise (do
  h ← read_sign signs.Hash ts
  r ← read_tree_between signs.OpenParenthesis signs.CloseParenthesis (read_header_parameters l) h.0
  Some (r.0, r.1, inr (h.0, h.1, r.2))) (λ _. Some ([], ts, inl (refl, refl)))

abbrev read_port_list : (l : Limits) (ts : List Placed)
    → Reads (λ ds. given (ds ≡ []) (optional (in_parentheses nothing))
    or in_parentheses (ArePorts l ds)) ts
read_port_list l ts = otherwise (do
  r ← read_tree_between signs.OpenParenthesis signs.CloseParenthesis (read_ports l) ts
  Some (r.0, r.1, inr r.2)) (λ _. (do
    r ← read_optional (read_between {P = nothing} signs.OpenParenthesis signs.CloseParenthesis
        (λ us. Some (us, refl))) ts
    Some ([], r.0, inl (refl, r.1))))

abbrev pub read_module : (l : Limits) (ts : List Placed) → Reads (IsModule l) ts
unfolding IsModule
read_module l ts = do
  w ← read_word words.Module ts
  x ← read_name_at w.0
  qs ← read_parameter_list l x.2
  ds ← read_port_list l qs.1
  s ← read_sign signs.Semicolon ds.1
  is ← read_items l s.0
  e ← read_word words.Endmodule is.1
  Some (
    record { name = x.0; place = x.1; parameters = qs.0; ports = ds.0; items = is.0 },
    e.0,
    (s.0, (w.0, w.1, (x.2, x.3, (qs.1, qs.2, (ds.1, ds.2, s.1)))), (is.1, is.2, e.1)),
  )

-- ---- lattices, label maps, texts

abbrev read_lattice_line : (ts : List Placed) → Reads IsLatticeLine ts
read_lattice_line ts = otherwise (do
  w ← read_word words.Point ts
  xs ← read_commas {P = IsPlacedName} read_placed_name (length ts) w.0
  s ← read_sign signs.Semicolon xs.1
  Some (points xs.0, s.0, (w.0, w.1, (xs.1, xs.2, s.1)))) (λ _. (do
    x ← read_placed_name ts
    o ← read_operator binop.Le x.1
    y ← read_placed_name o.0
    s ← read_sign signs.Semicolon y.1
    Some (
      pair (record { lower = x.0; upper = y.0 }),
      s.0,
      (x.1, x.2, (o.0, o.1, (y.1, y.2, s.1))),
    )))

abbrev pub read_lattice : (ts : List Placed) → Reads IsLattice ts
unfolding IsLattice
read_lattice ts = do
  w ← read_word_at words.Lattice ts
  ls ← read_each {P = IsLatticeLine} read_lattice_line (length ts) w.1
  e ← read_word words.Endlattice ls.1
  Some (
    record { place = w.0; points = flat_map points_of ls.0; pairs = flat_map pairs_of ls.0 },
    e.0,
    (ls.0, refl, refl, (w.1, w.2, (ls.1, ls.2, e.1))),
  )

abbrev read_plain_number : (ts : List Placed) → Reads IsNumber ts
read_plain_number ts = do
  v ← read_number_at ts
  Some (literal v.0 v.1, v.2, v.3)

abbrev read_key_range : (ts : List Placed) → Reads IsKeyRange ts
read_key_range ts = do
  o ← read_sign signs.OpenBracket ts
  high ← read_plain_number o.0
  colon ← read_sign signs.Colon high.1
  low ← read_plain_number colon.0
  c ← read_sign signs.CloseBracket low.1
  Some (
    record {
      high = high.0;
      low = low.0;
    },
    c.0,
    (o.0, o.1, (low.1, (high.1, high.2, (colon.0, colon.1, low.2)), c.1)),
  )

abbrev read_key : (ts : List Placed) → Reads IsKey ts
read_key ts = do
  v ← read_number_at ts
  Some (record { value = v.0; place = v.1 }, v.2, v.3)

abbrev read_comma_key : (ts : List Placed) → Reads (λ k. a_sign signs.Comma ⨾ IsKey k) ts
read_comma_key ts = do
  c ← read_sign signs.Comma ts
  k ← read_key c.0
  Some (k.0, k.1, (c.0, c.1, k.2))

abbrev read_row : (ts : List Placed) → Reads IsRow ts
read_row ts = do
  k ← read_key ts
  j ← read_perhaps {P = λ k. a_sign signs.Comma ⨾ IsKey k} read_comma_key k.1
  colon ← read_sign signs.Colon j.1
  x ← read_name colon.0
  s ← read_sign signs.Semicolon x.1
  Some (
    record {
      first = k.0;
      second = j.0;
      to = x.0;
    },
    s.0,
    (k.1, k.2, (j.1, j.2, (colon.0, colon.1, (x.1, x.2, s.1)))),
  )

abbrev read_other : (ts : List Placed)
    → Reads (λ x. a_word words.Default ⨾ a_sign signs.Colon ⨾ a_name x ⨾ a_sign signs.Semicolon) ts
read_other ts = do
  w ← read_word words.Default ts
  colon ← read_sign signs.Colon w.0
  x ← read_name colon.0
  s ← read_sign signs.Semicolon x.1
  Some (x.0, s.0, (w.0, w.1, (colon.0, colon.1, (x.1, x.2, s.1))))

abbrev pub read_map : (ts : List Placed) → Reads IsMap ts
unfolding IsMap
read_map ts = do
  w ← read_word words.Labelmap ts
  x ← read_name_at w.0
  r ← read_key_range x.2
  q ← read_perhaps {P = IsKeyRange} read_key_range r.1
  rows ← read_each {P = IsRow} read_row (length ts) q.1
  o ← read_perhaps {P = λ y.
      a_word words.Default ⨾ a_sign signs.Colon ⨾ a_name y
      ⨾ a_sign signs.Semicolon} read_other rows.1
  e ← read_word words.Endlabelmap o.1
  Some (
    record { name = x.0; place = x.1; span = r.0; second = q.0; rows = rows.0; other = o.0 },
    e.0,
    (w.0, w.1, (x.2, x.3, (r.1, r.2, (q.1, q.2, (rows.1, rows.2, (o.1, o.2, e.1)))))),
  )

abbrev at_end : (ts : List Placed) → Option (ts ≡ [])
at_end [] = Some refl
at_end (t ∷ ts) = None

-- the tree of the tokens within the limits, if one is found
abbrev pub read_text : (l : Limits) (ts : List Placed) → Option ((t : TextTree) × IsText l t ts)
unfolding IsText
read_text l ts = do
  b ← read_perhaps {P = IsLattice} read_lattice ts
  ms ← read_each {P = IsMap} read_map (length ts) b.1
  us ← read_some {P = IsModule l} (read_module l) (length ts) ms.1
  e ← at_end us.1
  Some (
    record { lattice = b.0; maps = ms.0; modules = us.0 },
    (b.1, b.2, (ms.1, ms.2, subst (λ rest. some (IsModule l) us.0 ms.1 rest) e us.2)),
  )

-- a text begins with the tokens: with these others behind them it has a tree
abbrev pub read_begin : (l : Limits) (ts others : List Placed) → Option (BeginText l ts)
unfolding BeginText
read_begin l ts others = do
  t ← read_text (record l { unread = length others }) (ts ++ others)
  Some (others, t.0, t.1)
