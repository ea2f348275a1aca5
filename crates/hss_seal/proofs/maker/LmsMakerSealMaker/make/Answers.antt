use Rattle.hss_seal.proofs.MadeFit.{made_agree, made_none, made_short}
use Rattle.hss_seal.proofs.maker.LmsMakerSealMaker.make.Goals as goal

pub returns-clause-agree : goal.returns-clause-agree
returns-clause-agree c = made_agree c.args.seed c.args.height c.args.n

pub returns-clause-short : goal.returns-clause-short
returns-clause-short c = λ replica number bytes below. made_short c.args.seed c.args.height replica number bytes

pub returns-clause-none : goal.returns-clause-none
returns-clause-none c = made_none c.args.seed c.args.height c.args.n
