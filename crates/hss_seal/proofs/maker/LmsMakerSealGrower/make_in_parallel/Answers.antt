use Rattle.hss_seal.proofs.MadeFit.{made_agree, made_none, made_short}
use Rattle.hss_seal.proofs.maker.LmsMakerSealGrower.make_in_parallel.Goals as goal

pub returns-clause-agree : goal.returns-clause-agree
returns-clause-agree g c = made_agree c.args.seed c.args.height c.args.n

pub returns-clause-short : goal.returns-clause-short
returns-clause-short g c = λ replica number bytes below. made_short c.args.seed c.args.height replica number bytes

pub returns-clause-none : goal.returns-clause-none
returns-clause-none g c = made_none c.args.seed c.args.height c.args.n
