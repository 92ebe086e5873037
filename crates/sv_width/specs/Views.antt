-- The plain form of a measured expression, as Measured.antt has it.
use Rattle.std.specs.Prelude.{List, [], ◌∷◌, map}
use Rattle.sv_num.specs.Vectors.{width_of, value_of}
use Rattle.sv_width.specs.declared.measured.Own.{Own}
use Rattle.sv_width.specs.declared.measured.Measured as measured
use Rattle.sv_width.specs.declared.measured.Measured.{Measured, Row_of-Measured, end_of-Measured}
use Rattle.sv_width.specs.declared.measured.Measured.{more_of-Measured}
use Rattle.sv_width.specs.Measured.{OwnForm, MeasuredTree, MeasuredTrees, value, read, read_bit}
use Rattle.sv_width.specs.Measured.{read_part, unary, binary, choice, join, replication, no_parts}
use Rattle.sv_width.specs.Measured.{more_parts}

abbrev pub plain_own : Own → OwnForm
plain_own own =
    record {
      width = own.of_type.width;
      signed = own.of_type.signed;
      names_signal = own.names_signal;
    }

abbrev mutual
  pub measured_tree : Measured → MeasuredTree
  measured_tree (measured.Number own bits) = value (plain_own own) (width_of bits) (value_of bits)
  measured_tree (measured.Signal own signal place) = read (plain_own own) signal.0 place
  measured_tree (measured.Bit' own signal place p index) =
      read_bit (plain_own own) signal.0 place (measured_tree index)
  measured_tree (measured.Part own signal place high low) =
      read_part (plain_own own) signal.0 place high low
  measured_tree (measured.Unary' own op p operand) =
      unary (plain_own own) op (measured_tree operand)
  measured_tree (measured.Binary' own op place p left q right) =
      binary (plain_own own) op place (measured_tree left) (measured_tree right)
  measured_tree (measured.Choice' own place p condition q first r second) =
      choice (plain_own own) place (measured_tree condition) (measured_tree first)
      (measured_tree second)
  measured_tree (measured.Join' own shape row) = join (plain_own own) (row_parts row)
  measured_tree (measured.Repeat' own count shape row) =
      replication (plain_own own) count (row_parts row)

  -- the parts of a join or replication, which stand in it as a row
  pub row_parts : {n : _} → Row_of-Measured n → MeasuredTrees
  row_parts end_of-Measured = no_parts
  row_parts (more_of-Measured e row) = more_parts (measured_tree e) (row_parts row)

abbrev pub measured_trees : List Measured → List MeasuredTree
measured_trees es = map measured_tree es

-- the parts of a join or replication, from a list
abbrev pub parts_of : List MeasuredTree → MeasuredTrees
parts_of [] = no_parts
parts_of (e ∷ es) = more_parts e (parts_of es)
