-- How the logic stores a call of the host as data.
use Rattle.std.specs.Prelude.{◌≡◌, ℕ, zero, suc, List, [], refl}
use Rattle.std.specs.Coded.{Coded, code_by, coded×, coded_ℕ, coded_list}
use Rattle.vezhnake.specs.HostCalls.{HostCall, write, sync, power_cut}

-- a call as data: its kind, its number and its bytes
abbrev Parts : Type 0
Parts = ℕ × (ℕ × List ℕ)

abbrev parts_of : HostCall → Parts
parts_of (write at bytes) = (0, (at, bytes))
parts_of sync = (1, (0, []))
parts_of power_cut = (2, (0, []))

abbrev call_at : ℕ → ℕ → List ℕ → HostCall
call_at zero at bytes = write at bytes
call_at (suc zero) at bytes = sync
call_at (suc (suc k)) at bytes = power_cut

abbrev call_from : Parts → HostCall
call_from p = call_at p.0 p.1.0 p.1.1

pub call_again : (c : HostCall) → call_from (parts_of c) ≡ c
call_again (write at bytes) = refl
call_again sync = refl
call_again power_cut = refl

abbrev pub coded_call : Coded HostCall
coded_call = code_by Parts (coded× coded_ℕ (coded× coded_ℕ (coded_list coded_ℕ))) parts_of call_from call_again
