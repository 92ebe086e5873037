use Rattle.sv_encoding_laws.proofs.LabelWords.{label_says_point, labels_say_points}
use Rattle.sv_encoding_laws.proofs.laws.labels_of_signals_say_their_points.Goals as goal

pub returns-clause-one : goal.returns-clause-one
returns-clause-one c = label_says_point

pub returns-clause-several : goal.returns-clause-several
returns-clause-several c = labels_say_points
