-- A raw source of one's own: each character is a token of no known kind. It keeps the laws of a source.
use Rattle.std.specs.Prelude.{[], refl}
use Rattle.raw.specs.Answers.{character}
use Rattle.raw.specs.Laws.{Laws}
use Rattle.raw.specs.declared.kinds.RawKind.TheVariants.{Unknown}
use Rattle.raw.proofs.Characters.{character_keeps}
use Rattle.cases.specs.declared.own_source.Characters.{Characters}

pub characters_laws : Laws {S = Characters} (λ s. s.script.bytes.now) (λ s. character s.script.bytes.now Unknown) (λ s p. []) (λ s. 0)
characters_laws = record {
  admitted = λ s. s.script.fits;
  tokens = λ s p b. character_keeps s.script.bytes.now p s.script.fits b;
  shebangs = λ s. refl;
}
