-- What `dump_text::opens` answers of what is lent: tables that are shown, or the refusal that shuts them out.
use Rattle.std.specs.Prelude.{◌≡◌, None, Some}
use Rattle.resolve.specs.declared.Refusal.{Refusal}
use Rattle.resolve.specs.Refusals.{refusal_number}
use Rattle.resolve.specs.Lent.{Lent}
use Rattle.dump_runs.specs.declared.Opened.{Opened}
use Rattle.dump_runs.specs.Opened.{lent_of}
use Rattle.dump_text.specs.Text.{opening_of, first_number}

pub record Shows (q : Lent) (t : Opened) : Type 0 where
  pub lent : lent_of t ≡ q
  pub widths : opening_of q.config (first_number q) ≡ Some t.widths

pub record Shuts (q : Lent) (r : Refusal) : Type 0 where
  pub number : refusal_number r ≡ first_number q
  pub none : opening_of q.config (first_number q) ≡ None
