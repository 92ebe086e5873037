-- What a sink's fault becomes.
use Rattle.sv_io.specs.declared.faults.PutFault.{PutFault}
use Rattle.sv_io.specs.declared.faults.PutFault.TheVariants as put
use Rattle.sv_sim_run.specs.declared.endings.SimFault.{SimFault}
use Rattle.sv_sim_run.specs.declared.endings.SimFault.TheVariants as fault

abbrev pub fault_of_put : PutFault → SimFault
fault_of_put put.Failed = fault.Write
fault_of_put put.OutOfMemory = fault.OutOfMemory
