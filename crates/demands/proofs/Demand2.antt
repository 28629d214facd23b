-- Demand 2, as specs/Demand2.antt states it. Assumes nothing.
use Rattle.std.specs.Prelude.{Ok, Err}
use Prim.Native.Nat.{ℕ, ◌<◌}
use mathlib.Core.Path.{◌≡◌, refl, sym, ◌∙◌}
use Rattle.codec.specs.Writing.{writing, Writing}
use Rattle.frame.specs.declared.identifiers.Address.{Address}
use Rattle.frame.specs.declared.messages.Message.{Message}
use Rattle.codec.proofs.Accepted.{every_row, every_request}
use Rattle.codec.proofs.Everything.{every_frame}
use Rattle.codec.proofs.RoundTrip.{read_then_written, written_then_read, one_frame}
use Rattle.repair.proofs.Beyond.{first_beyond_repair}
use Rattle.shape.specs.Limits.{addresses}
use Rattle.history.proofs.Speaks.{names_numbered, blinds_numbered, speaks_of}
use Rattle.history.proofs.InMemory.{in_memory}
use Rattle.places.proofs.Fitting.{runs_lie, runs_fit}
use Rattle.places.proofs.Apart.{apart, inside}
use Rattle.history.proofs.Effects.{effects, hears_command, hears_entry, hears_exchange}
use Rattle.layouts.proofs.Holding.{laid_is_held}
use Rattle.velbus.proofs.Again.{read_then_written_again, laid_is_read_back}
use Rattle.demands.specs.Order.{answers}
use Rattle.demands.specs.Demand1.{verdict_of_writing}
use Rattle.demands.specs.Demand2.{ReadsBack, LegalIsWritten, Demand2}
use Rattle.demands.proofs.Orders.{answers_refuses}
use Rattle.demands.proofs.FrameOrders.{writes}

written_back : (kind : ℕ) (a : Address) (m : Message) → a.0 < addresses → (w : Writing) → writing kind a m ≡ w → verdict_of_writing w ≡ answers → ReadsBack kind a m
written_back kind a m h (Ok f) e q = record { frame = f; written = e; read = written_then_read kind a m f h e }
written_back kind a m h (Err n) e q = answers_refuses (sym q)

legal_is_written : LegalIsWritten
legal_is_written kind a m h e = written_back kind a m h (writing kind a m) refl (writes kind a m ∙ e)

pub demand_2 : Demand2
demand_2 =
    record {
      every_frame = every_frame;
      every_row = every_row;
      every_request = every_request;
      one_frame = one_frame;
      first_beyond_repair = first_beyond_repair;
      read_then_written = read_then_written;
      read_then_written_again = read_then_written_again;
      legal_is_written = legal_is_written;
      written_then_read = written_then_read;
      laid_is_held = laid_is_held;
      laid_is_read_back = laid_is_read_back;
      speaks_of = speaks_of;
      names_numbered = names_numbered;
      blinds_numbered = blinds_numbered;
      runs_lie = runs_lie;
      runs_fit = runs_fit;
      apart = apart;
      inside = inside;
      in_memory = in_memory;
      effects = effects;
      hears_command = hears_command;
      hears_entry = hears_entry;
      hears_exchange = hears_exchange;
    }
