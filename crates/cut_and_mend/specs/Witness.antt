-- That demand 3's premises can be met: arrangements for which they hold, with a set that answers 0 and one that answers 10.
use Rattle.std.specs.Prelude.{List, ◌∷◌, ℕ, replicate}
use Rattle.resolve.specs.B.{arrangement_b, in_b}
use Rattle.gpt.specs.Set.{changed_number}
use Rattle.outcomes.specs.Cases.{change}
use Rattle.cut_and_mend.specs.Demand3.{Answers0or10, Tables}

-- B with words of sixteen Root granules, and word 1 invalid
abbrev pub spoilt : List ℕ
spoilt = 0xAAAA_AAAA_AAAA_AAAA ∷ 0x2 ∷ replicate 1022 0xAAAA_AAAA_AAAA_AAAA

pub record Met : Type 0 where
  -- B, and C7: set 0x40000000 Realm
  pub tables_b : Tables arrangement_b
  pub answer_0 : Answers0or10 (changed_number (change arrangement_b 0x4000_0000 11).answer)
  -- set 0x40000000 Root, whose first scan meets the invalid word
  pub tables_spoilt : Tables (in_b spoilt)
  pub answer_10 : Answers0or10 (changed_number (change (in_b spoilt) 0x4000_0000 10).answer)
