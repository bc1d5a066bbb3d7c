-- The format of every configuration has the laws that the theory of tables asks for.
use Rattle.theory.specs.Format.{Laws}
use Rattle.l1.proofs.Arm.{arm-laws}
use Rattle.config.specs.declared.Config.{Config}
use Rattle.config.specs.Format.{format_of}

pub format_laws : (c : Config) → Laws (format_of c)
format_laws c = arm-laws
