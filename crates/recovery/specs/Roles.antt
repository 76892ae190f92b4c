-- The role of an object that a capability names.
use Rattle.recovery.specs.Names.{Capability, Page, Node, Space, Process, Start, Resume, Bank, Role}
use Rattle.model.specs.declared.object.Role.TheVariants as role

-- the role that the object of a capability must have; free if the capability names no object
abbrev pub role_for : Capability → Role
role_for (Page o a) = role.Page
role_for (Node o a) = role.Node
role_for (Space o h a) = role.Node
role_for (Process p) = role.Root
role_for (Start p key) = role.Root
role_for (Resume p) = role.Root
role_for (Bank b) = role.Bank
role_for _ = role.Free
