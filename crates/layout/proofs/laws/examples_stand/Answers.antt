use Rattle.std.proofs.Common.{refl}
use Rattle.layout.specs.Bytes.{clean_of}
use Rattle.layout.proofs.laws.examples_stand.Goals as goal

pub returns : goal.returns
unfolding clean_of
returns c = record {
  headers = ((refl, refl), ((refl, refl), ((refl, refl), ((refl, refl), tt))));
  pages = ((refl, refl), ((refl, refl), ((refl, refl), ((refl, refl), ((refl, refl), ((refl, refl), ((refl, refl), ((refl, refl), tt))))))));
  unclean = (refl, (refl, (refl, (refl, tt))));
}
