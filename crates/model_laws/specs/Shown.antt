-- How processes are shown in the worked rows.
use Prim.Native.String.{String, ◌++◌}

-- how processes 1 and 3 are shown, in a state and with these registers
abbrev pub process_1 : String → String → String
process_1 state registers = "process 1 owner 0 annex 2 " ++ state ++ " space void\n" ++ registers ++ "end"

abbrev pub process_3 : String → String → String
process_3 state registers = "process 3 owner 0 annex 4 " ++ state ++ " space void\n" ++ registers ++ "end"

-- the text of the registers of process 1: at the start in Worlds F0 and I0; in World S0 without and with a weak
-- node in register 11
abbrev pub f0_registers : String
f0_registers = "register 5 node 5\nregister 6 page 16\n"

abbrev pub i0_registers : String
i0_registers = "register 1 process 1\nregister 2 bank 0\nregister 3 start 3 7\nregister 4 process 3\n"

abbrev pub s0_with : String → String
s0_with weak =
    "register 1 process 1\nregister 3 start 1 7\nregister 8 discrim\nregister 10 node 5\n"
    ++ weak ++ "register 12 node 6\nregister 13 page 16\n"

abbrev pub s0_registers : String
s0_registers = s0_with ""

abbrev pub s0_with_weak : String
s0_with_weak = s0_with "register 11 node 5 weak\n"
